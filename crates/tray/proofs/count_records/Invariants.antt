use Prim.Native.Nat.{◌-◌}
use lib.ListN.{length}
use Rattle.tray.proofs.CountLaws.{CountedTo}
use Rattle.tray.proofs.count_records.Given as goal

abbrev pub invariant-loop-size : goal.invariant-loop-size
invariant-loop-size l = CountedTo l.tray l.count l.end

abbrev pub decreases-loop-size : goal.decreases-loop-size
decreases-loop-size l = length l.tray - l.end
