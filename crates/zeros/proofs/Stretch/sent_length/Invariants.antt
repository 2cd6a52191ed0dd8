-- `Stretch::sent_length` meets its contract: what is counted and what the rest becomes make the whole.
use Prim.Native.Nat.{◌+◌, ◌-◌, ◌≤◌}
use mathlib.Core.Path.{◌≡◌}
use mathlib.Core.Bool.{true}
use lib.ListN.{length}
use Rattle.zeros.proofs.PourLaws.{become}
use Rattle.zeros.proofs.Stretch.sent_length.Given as goal

abbrev pub invariant-loop-i : goal.invariant-loop-i
invariant-loop-i l =
    (l.i ≤ l.self.end + 1) × (l.total + length (become true l.self.octets.now l.self.end l.i) ≡ length (become true l.self.octets.now l.self.end l.self.begin))

abbrev pub decreases-loop-i : goal.decreases-loop-i
decreases-loop-i l = l.self.end + 1 - l.i
