use Rattle.std.proofs.Common.{sym, ◌∙◌}
use Rattle.refusals.proofs.RefusalLaws.{if_taken_lem}
use Rattle.card_queue.specs.Queues.{kept_refusal, kept_freed}
use Rattle.card_queue.proofs.QueueLaws.{freed_so}
use Rattle.card_queue.proofs.freed.Goals as goal

pub returns : goal.returns
unfolding kept_freed
returns c =
    let a = c.args in
    let n = c.in_ok-numbers in
    c.freed.ensures ∙ freed_so a.kept.now a.level n.field-0 n.ensures.2 ∙ sym (if_taken_lem (kept_refusal a.kept.now) _ _ (sym n.ensures.0))
