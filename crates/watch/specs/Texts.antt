-- What is printed of a watch and of its answers.
use Rattle.std.specs.Prelude.{ℕ, List, codes}
use Rattle.watch.specs.declared.Originating.{Originating}
use Rattle.watch.specs.declared.Originating.TheVariants.{Norm as NORMAL, Alarm as ALARM}
use Rattle.watch.specs.declared.Terminating.{Terminating}
use Rattle.watch.specs.declared.Terminating.TheVariants.{Norm as NORM, LAlarm as L-ALARM, RAlarm as R-ALARM}
use Rattle.watch.specs.declared.Sends.{Sends}
use Rattle.watch.specs.declared.Sends.TheVariants.{Nothing, Transition, Refresh}
use Rattle.watch.specs.declared.Conditioning.{Conditioning}
use Rattle.watch.specs.declared.Conditioning.TheVariants.{Unchanged, Begins, Ends}

-- the states of both ends by their names of G.764
abbrev pub originating_text : Originating → List ℕ
originating_text NORMAL = codes "NORM"
originating_text ALARM = codes "ALARM"

abbrev pub terminating_text : Terminating → List ℕ
terminating_text NORM = codes "NORM"
terminating_text L-ALARM = codes "L_ALARM"
terminating_text R-ALARM = codes "R_ALARM"

abbrev pub sends_text : Sends → List ℕ
sends_text Nothing = codes "nothing"
sends_text Transition = codes "transition"
sends_text Refresh = codes "refresh"

abbrev pub conditioning_text : Conditioning → List ℕ
conditioning_text Unchanged = codes "unchanged"
conditioning_text Begins = codes "begins"
conditioning_text Ends = codes "ends"
