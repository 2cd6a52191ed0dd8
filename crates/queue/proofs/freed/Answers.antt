use Rattle.std.proofs.Common.{◌≡◌, length, ap, ◌∙◌, rules}
use Rattle.room.specs.Rules.{freed_answer}
use Rattle.room.specs.declared.Queue.{Queue}
use Rattle.room.proofs.FreedLaws.{freed_bare}
use Rattle.queue.proofs.freed.Goals as goal

pub returns : goal.returns
returns c =
    let a = c.args in
    let all : length a.q.lengths ≡ 32 = search rules in
    c.freed.ensures ∙ ap (λ (p : Queue). freed_answer p a.level) c.outline.ensures ∙ freed_bare a.q a.level (record { all = all; octets = λ k. search rules })
