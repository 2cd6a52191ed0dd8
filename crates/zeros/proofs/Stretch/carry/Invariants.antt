-- `Stretch::carry` meets its contract: each turn pours a piece, and what is put and what is left are all.
use Prim.Native.Nat.{◌+◌, ◌-◌, ◌≤◌}
use Rattle.zeros.proofs.PourLaws.{become, Poured}
use Rattle.zeros.proofs.Stretch.carry.Given as goal

abbrev pub invariant-loop-i : goal.invariant-loop-i
invariant-loop-i l =
    (l.i ≤ l.self.end + 1) × Poured l.initial.out l.out l.fn.held.at l.fn.held.bits l.fn.held.n (become l.writing l.self.octets.now l.self.end l.self.begin) (become l.writing l.self.octets.now l.self.end l.i) l.held.at l.held.bits l.held.n

abbrev pub decreases-loop-i : goal.decreases-loop-i
decreases-loop-i l = l.self.end + 1 - l.i
