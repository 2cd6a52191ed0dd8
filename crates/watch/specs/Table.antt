-- G.764 6.2, 6.4 and 6.5: the table of the watch. By the states of both ends and what comes upon the circuit: the states after it, what is sent, and whether conditioning begins or ends. The originating end's NORM is NORMAL here, since the terminating end has one too.
use Rattle.std.specs.Prelude.{Bool, true, false, cond}
use Rattle.watch.specs.declared.Originating.{Originating}
use Rattle.watch.specs.declared.Originating.TheVariants.{Norm as NORMAL, Alarm as ALARM}
use Rattle.watch.specs.declared.Terminating.{Terminating}
use Rattle.watch.specs.declared.Terminating.TheVariants.{Norm as NORM, LAlarm as L-ALARM, RAlarm as R-ALARM}
use Rattle.watch.specs.declared.Coming.{Coming}
use Rattle.watch.specs.declared.Coming.TheVariants.{NoChange, RunOut, NormalFrame, AlarmFrame, FacilityAlarm, SameBits, ChangedBits, RefreshDue}
use Rattle.watch.specs.declared.Sends.{Sends}
use Rattle.watch.specs.declared.Sends.TheVariants.{Nothing, Transition, Refresh}
use Rattle.watch.specs.declared.Conditioning.{Conditioning}
use Rattle.watch.specs.declared.Conditioning.TheVariants.{Unchanged, Begins, Ends}
use Rattle.watch.specs.declared.Row.{Row}

abbrev leaves : Originating → Terminating → Sends → Conditioning → Row
leaves o t s c = record { originating = o; terminating = t; sends = s; conditioning = c }

abbrev pub table : Originating → Terminating → Coming → Row
table o t NoChange = leaves o t Nothing Unchanged
-- 6.4 2) and 4): TSIG_KA has expired
table o NORM RunOut = leaves o L-ALARM Nothing Begins
table o L-ALARM RunOut = leaves o L-ALARM Nothing Unchanged
table o R-ALARM RunOut = leaves o L-ALARM Nothing Unchanged
-- 6.4 1), 2) and 3): a signalling frame is taken, with N/A 0
table o NORM NormalFrame = leaves o NORM Nothing Unchanged
table o L-ALARM NormalFrame = leaves o NORM Nothing Ends
table o R-ALARM NormalFrame = leaves o NORM Nothing Ends
-- 6.4 3) and 5): with N/A 1
table o NORM AlarmFrame = leaves o R-ALARM Nothing Begins
table o L-ALARM AlarmFrame = leaves o R-ALARM Nothing Unchanged
table o R-ALARM AlarmFrame = leaves o R-ALARM Nothing Unchanged
-- 6.2 and 6.5.1, in either state: a reading with a facility alarm; with none and the bits in use as they were; with none and another state of theirs
table o t FacilityAlarm = leaves ALARM t Nothing Unchanged
table o t SameBits = leaves NORMAL t Nothing Unchanged
table o t ChangedBits = leaves NORMAL t Transition Unchanged
-- 6.2: TSIG_REF has passed since the last frame was sent
table NORMAL t RefreshDue = leaves NORMAL t Refresh Unchanged
table ALARM t RefreshDue = leaves ALARM t Refresh Unchanged

-- trunk conditioning is on in L_ALARM and R_ALARM
abbrev pub conditioned : Terminating → Bool
conditioned NORM = false
conditioned L-ALARM = true
conditioned R-ALARM = true

-- what an event does to conditioning that was on, or off, before it and is after it
abbrev pub change : Bool → Bool → Conditioning
change before after = cond after (cond before Unchanged Begins) (cond before Ends Unchanged)

-- what either of two rows sends
abbrev pub sends_both : Sends → Sends → Sends
sends_both Nothing s = s
sends_both Transition s = Transition
sends_both Refresh s = Refresh

-- the net change of two
abbrev pub net : Conditioning → Conditioning → Conditioning
net Unchanged c = c
net Begins Unchanged = Begins
net Begins Begins = Begins
net Begins Ends = Unchanged
net Ends Unchanged = Ends
net Ends Begins = Unchanged
net Ends Ends = Ends

abbrev pub and_then : Row → Row → Row
and_then a b = leaves b.originating b.terminating (sends_both a.sends b.sends) (net a.conditioning b.conditioning)

-- the table's fold: what comes next, upon the states that a row left
unfoldable pub comes : Row → Coming → Row
comes r coming = and_then r (table r.originating r.terminating coming)
