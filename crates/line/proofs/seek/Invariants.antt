-- `line::seek` meets its contract: what is left to look for is what was asked for.
use Prim.Native.Nat.{◌+◌, ◌-◌, ◌≤◌}
use mathlib.Core.Path.{◌≡◌}
use Rattle.bits.specs.Places.{until}
use Rattle.line.specs.Parts.{sought}
use Rattle.bits.proofs.WindowLaws.{rest}
use Rattle.line.proofs.seek.Given as goal

abbrev pub invariant-loop-i : goal.invariant-loop-i
invariant-loop-i l = (l.i ≤ l.count) × (l.place + until (sought l.what) (rest l.line l.count l.place) ≡ l.i + until (sought l.what) (rest l.line l.count l.i))

abbrev pub decreases-loop-i : goal.decreases-loop-i
decreases-loop-i l = l.count - l.i
