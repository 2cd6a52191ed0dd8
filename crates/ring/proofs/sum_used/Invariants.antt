use Prim.Native.Nat.{◌*◌, ◌≤◌}
use mathlib.Core.Path.{◌≡◌}
use Rattle.ring.proofs.SumLaws.{added_to}
use Rattle.ring.proofs.sum_used.Given as goal

abbrev pub invariant-loop-i : goal.invariant-loop-i
invariant-loop-i l = (l.added ≡ added_to l.first l.count l.slots l.i) × (l.added ≤ 255 * l.i)
