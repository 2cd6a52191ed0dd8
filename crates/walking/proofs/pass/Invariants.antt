use Prim.Native.Nat.{◌-◌}
use mathlib.Core.Path.{◌≡◌}
use lib.ListN.{length}
use Rattle.walking.proofs.StreamLaws.{Run}
use Rattle.walking.specs.Held.{carried_of}
use Rattle.walking.proofs.pass.Given as goal

abbrev pub invariant-loop-out : goal.invariant-loop-out
invariant-loop-out l =
    (l.room ≡ length l.initial.out) × Run l.input l.initial.out l.have l.initial.from l.initial.end l.ended (carried_of l.initial.state) (carried_of l.state) l.from l.end l.out

abbrev pub decreases-loop-out : goal.decreases-loop-out
decreases-loop-out l = l.have - l.from
