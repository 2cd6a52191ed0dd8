-- Laws of the table: what a run_out and a refresh leave as it was, that conditioning is on exactly in L_ALARM and R_ALARM, and the row that the three parts of an event leave.
use mathlib.Core.Path.{◌≡◌, refl, sym, ap, ◌∙◌}
use mathlib.Core.Bool.{Bool, true, false, cond}
use Rattle.watch.specs.declared.Originating.{Originating}
use Rattle.watch.specs.declared.Originating.TheVariants.{Norm as NORMAL, Alarm as ALARM}
use Rattle.watch.specs.declared.Terminating.{Terminating}
use Rattle.watch.specs.declared.Terminating.TheVariants.{Norm as NORM, LAlarm as L-ALARM, RAlarm as R-ALARM}
use Rattle.watch.specs.declared.Coming.{Coming}
use Rattle.watch.specs.declared.Coming.TheVariants.{NoChange, RunOut, NormalFrame, AlarmFrame, FacilityAlarm, SameBits, ChangedBits, RefreshDue}
use Rattle.watch.specs.declared.Sends.{Sends}
use Rattle.watch.specs.declared.Sends.TheVariants.{Nothing, Refresh}
use Rattle.watch.specs.declared.Conditioning.{Conditioning}
use Rattle.watch.specs.declared.Conditioning.TheVariants.{Unchanged, Begins, Ends}
use Rattle.watch.specs.declared.Row.{Row}
use Rattle.watch.specs.Table.{table, sends_both, net, comes, conditioned, change}

abbrev row_of : Originating → Terminating → Sends → Conditioning → Row
row_of o t s c = record { originating = o; terminating = t; sends = s; conditioning = c }

-- the three comings that decide the terminating end's state, whatever it was, and the refresh
pub run_out : (o : Originating) (t : Terminating) → table o t RunOut ≡ row_of o L-ALARM Nothing (change (conditioned t) true)
run_out o NORM = refl
run_out o L-ALARM = refl
run_out o R-ALARM = refl

pub normal_frame : (o : Originating) (t : Terminating) → table o t NormalFrame ≡ row_of o NORM Nothing (change (conditioned t) false)
normal_frame o NORM = refl
normal_frame o L-ALARM = refl
normal_frame o R-ALARM = refl

pub alarm_frame : (o : Originating) (t : Terminating) → table o t AlarmFrame ≡ row_of o R-ALARM Nothing (change (conditioned t) true)
alarm_frame o NORM = refl
alarm_frame o L-ALARM = refl
alarm_frame o R-ALARM = refl

pub refresh_due_lem : (o : Originating) (t : Terminating) → table o t RefreshDue ≡ row_of o t Refresh Unchanged
refresh_due_lem NORMAL t = refl
refresh_due_lem ALARM t = refl

pub change_same : (b : Bool) → change b b ≡ Unchanged
change_same true = refl
change_same false = refl

-- each row's conditioning is that of the states which it joins
pub row_change : (o : Originating) (t : Terminating) (c : Coming) → (table o t c).conditioning ≡ change (conditioned t) (conditioned (table o t c).terminating)
row_change o t NoChange = sym (change_same (conditioned t))
row_change o t RunOut = rw (run_out o t) refl
row_change o t NormalFrame = rw (normal_frame o t) refl
row_change o t AlarmFrame = rw (alarm_frame o t) refl
row_change o t FacilityAlarm = sym (change_same (conditioned t))
row_change o t SameBits = sym (change_same (conditioned t))
row_change o t ChangedBits = sym (change_same (conditioned t))
row_change o t RefreshDue = rw (refresh_due_lem o t) (sym (change_same (conditioned t)))

net_change : (a b c : Bool) → net (change a b) (change b c) ≡ change a c
net_change true true true = refl
net_change true true false = refl
net_change true false true = refl
net_change true false false = refl
net_change false true true = refl
net_change false true false = refl
net_change false false true = refl
net_change false false false = refl

net_unchanged : (c : Conditioning) → net c Unchanged ≡ c
net_unchanged Unchanged = refl
net_unchanged Begins = refl
net_unchanged Ends = refl

first : (o : Originating) (t : Terminating) (p : Bool)
    → comes (row_of o t Nothing Unchanged) (cond p RunOut NoChange)
    ≡ row_of o (table o t (cond p RunOut NoChange)).terminating Nothing (change (conditioned t) (conditioned (table o t (cond p RunOut NoChange)).terminating))
unfolding comes
first o t true = rw (run_out o t) refl
first o t false = ap (row_of o t Nothing) (sym (change_same (conditioned t)))

second : (o : Originating) (t : Terminating) (x : Bool) (b : Coming)
    → comes (row_of o t Nothing (change x (conditioned t))) b
    ≡ row_of (table o t b).originating (table o t b).terminating (table o t b).sends (change x (conditioned (table o t b).terminating))
unfolding comes
second o t x b =
    ap (row_of (table o t b).originating (table o t b).terminating (table o t b).sends)
    (ap (net (change x (conditioned t))) (row_change o t b) ∙ net_change x (conditioned t) (conditioned (table o t b).terminating))

third : (o : Originating) (t : Terminating) (s : Sends) (c : Conditioning) (q : Bool)
    → comes (row_of o t s c) (cond q RefreshDue NoChange) ≡ row_of o t (sends_both s (cond q Refresh Nothing)) c
unfolding comes
third o t s c true = rw (refresh_due_lem o t) (ap (row_of o t (sends_both s Refresh)) (net_unchanged c))
third o t s c false = ap (row_of o t (sends_both s Nothing)) (net_unchanged c)

pub due_sends : (o : Originating) (t : Terminating) (q : Bool) → (table o t (cond q RefreshDue NoChange)).sends ≡ cond q Refresh Nothing
due_sends o t true = rw (refresh_due_lem o t) refl
due_sends o t false = refl

module _ (o : Originating) (t : Terminating) (p : Bool) (b : Coming) where
  abbrev pub alive : Terminating
  alive = (table o t (cond p RunOut NoChange)).terminating

  -- what a run_out and then what the event brings leave
  pub judged_left : comes (comes (row_of o t Nothing Unchanged) (cond p RunOut NoChange)) b
      ≡ row_of (table o alive b).originating (table o alive b).terminating (table o alive b).sends (change (conditioned t) (conditioned (table o alive b).terminating))
  judged_left = ap (λ (r : Row). comes r b) (first o t p) ∙ second o alive (conditioned t) b

  -- and then the refresh, which may depend on what was sent
  pub row_left : (due : Sends → Bool)
      → comes (comes (comes (row_of o t Nothing Unchanged) (cond p RunOut NoChange)) b)
      (cond (due (comes (comes (row_of o t Nothing Unchanged) (cond p RunOut NoChange)) b).sends) RefreshDue NoChange)
      ≡ row_of (table o alive b).originating (table o alive b).terminating
      (sends_both (table o alive b).sends (cond (due (table o alive b).sends) Refresh Nothing))
      (change (conditioned t) (conditioned (table o alive b).terminating))
  row_left due =
      ap (λ (r : Row). comes r (cond (due r.sends) RefreshDue NoChange)) judged_left
      ∙ third (table o alive b).originating (table o alive b).terminating (table o alive b).sends (change (conditioned t) (conditioned (table o alive b).terminating)) (due (table o alive b).sends)
