use Rattle.std.proofs.Common.{◌≡◌, ℕ, ◌<◌, length, get_or}
use Rattle.queue.proofs.widened.Given as goal

abbrev pub invariant-loop-i : goal.invariant-loop-i
invariant-loop-i l = (length l.wide ≡ 32) × ((k : ℕ) → k < l.i → get_or l.wide k 0 ≡ get_or l.lengths k 0)
