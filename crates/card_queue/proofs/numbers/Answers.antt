use Rattle.std.proofs.Common.{sym}
use Rattle.card_queue.proofs.QueueLaws.{judged_fit, fits, numbered_kept}
use Rattle.card_queue.proofs.numbers.Goals as goal

pub invariant_of-result-2 : goal.invariant_of-result-2
invariant_of-result-2 c =
    let fit = judged_fit c.args.kept.now c.any_wide.result c.in_ok-refuse.ensures c.any_wide.ensures c.in_ok-refuse-2.ensures in
    record { slots = (fits c.args.kept.now (sym fit)).1 }

pub returns : goal.returns
returns c =
    let fit = judged_fit c.args.kept.now c.any_wide.result c.in_ok-refuse.ensures c.any_wide.ensures c.in_ok-refuse-2.ensures in
    let size = (fits c.args.kept.now (sym fit)).0 in
    (fit, size, numbered_kept c.args.kept.now size)
