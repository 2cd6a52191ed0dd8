use mathlib.Core.Path.{◌≡◌, sym, ap, ◌∙◌}
use native.Mathlib.Omega.{arith}
use lib.ListN.{length}
use Rattle.zeros.specs.Zeros.{stuff}
use Rattle.line.specs.Parts.{sent_as}
use Rattle.line.proofs.AddLaws.{all_bits, whole_frame, sent_most, room_for_most, room_for_it}
use Rattle.line.proofs.no_room.Goals as goal

pub sent_length-requires : goal.sent_length-requires
sent_length-requires c = let all = all_bits c.args.frame.now c.requires in (all.2, all.3)

pub overflow_add-sent_length : goal.overflow_add-sent_length
overflow_add-sent_length c =
    let sent_is : c.sent_length.result ≡ length (sent_as c.args.frame.now) =
    c.sent_length.ensures ∙ ap (λ b. length (stuff 4 b)) (whole_frame c.args.frame.now) in
    omega (arith, sent_is, sent_most c.args.frame.now)

pub returns-then-lacks : goal.returns-then-lacks
returns-then-lacks c =
    let a = c.args in
    room_for_it a.n a.begin c.sent_length.result a.frame.now c.lacks-then-lacks.result
    (c.sent_length.ensures ∙ ap (λ b. length (stuff 4 b)) (whole_frame a.frame.now)) c.lacks-then-lacks.ensures

pub returns-else-lacks : goal.returns-else-lacks
returns-else-lacks c =
    let a = c.args in
    c.if-lacks.false ∙ room_for_most a.n a.begin a.frame.now (sym c.lacks.ensures ∙ c.if-lacks.false)
