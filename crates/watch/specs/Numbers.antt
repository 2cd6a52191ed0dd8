-- The numbers that a host keeps for the states of both ends.
use Rattle.std.specs.Prelude.{ℕ}
use Rattle.watch.specs.declared.Originating.{Originating}
use Rattle.watch.specs.declared.Originating.TheVariants.{Norm as NORMAL, Alarm as ALARM}
use Rattle.watch.specs.declared.Terminating.{Terminating}
use Rattle.watch.specs.declared.Terminating.TheVariants.{Norm as NORM, LAlarm as L-ALARM, RAlarm as R-ALARM}

abbrev pub originating_number : Originating → ℕ
originating_number NORMAL = 0
originating_number ALARM = 1

abbrev pub terminating_number : Terminating → ℕ
terminating_number NORM = 0
terminating_number L-ALARM = 1
terminating_number R-ALARM = 2
