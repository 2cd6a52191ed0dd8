use Rattle.onward.specs.Onward.{wait_of}
use Rattle.tray.proofs.RunLaws.{Run}
use Rattle.tray.proofs.forward_records.Given as goal

abbrev pub invariant-loop-number : goal.invariant-loop-number
invariant-loop-number l =
    Run l.hop.level (wait_of l.hop.from l.hop.to) l.hop.address l.tray l.initial.out l.initial.list l.out l.list l.rest l.written l.number-index
