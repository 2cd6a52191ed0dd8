use Rattle.std.proofs.Common.{◌≡◌, take}
use Rattle.totals.specs.Totals.{any_above}
use Rattle.card_queue.proofs.any_wide.Given as goal

abbrev pub invariant-loop-length : goal.invariant-loop-length
invariant-loop-length l = l.wide ≡ any_above 255 (take l.length-index l.lengths)
