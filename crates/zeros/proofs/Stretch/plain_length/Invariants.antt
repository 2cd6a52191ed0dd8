-- `Stretch::plain_length` meets its contract: what is counted and what is still to be counted make the whole.
use Prim.Native.Nat.{◌+◌, ◌-◌, ◌≤◌}
use mathlib.Core.Path.{◌≡◌}
use Rattle.zeros.specs.Parts.{zero_behind, places}
use Rattle.bits.proofs.WindowLaws.{rest}
use Rattle.zeros.proofs.Stretch.plain_length.Given as goal

abbrev pub invariant-loop-i : goal.invariant-loop-i
invariant-loop-i l = (l.i ≤ l.self.end) × (l.out + places zero_behind (rest l.self.octets.now l.self.end l.i) ≡ places zero_behind (rest l.self.octets.now l.self.end l.self.begin))

abbrev pub decreases-loop-i : goal.decreases-loop-i
decreases-loop-i l = l.self.end - l.i
