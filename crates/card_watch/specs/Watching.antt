-- Document 02, A1, as a host makes it: the calls of a circuit's watch on numbers and on slices that it lends.
use Rattle.std.specs.Prelude.{ℕ, ◌^◌, ◌-◌, cond, not, ◌||◌, List, [], ◌∷◌, ltb, eqb, length, get_or}
use Rattle.refusals.specs.Refusals.{◌or_else◌, if_taken, refuse}
use Rattle.watch.specs.Numbers.{originating_number, terminating_number}
use Rattle.watch.specs.Watch.{Watched, fresh_watch, only, event_answer}
use Rattle.watch.specs.declared.Originating.{Originating}
use Rattle.watch.specs.declared.Originating.TheVariants.{Norm as NORMAL, Alarm as ALARM}
use Rattle.watch.specs.declared.Terminating.{Terminating}
use Rattle.watch.specs.declared.Terminating.TheVariants.{Norm as NORM, LAlarm as L-ALARM, RAlarm as R-ALARM}
use Rattle.watch.specs.declared.Sends.{Sends}
use Rattle.watch.specs.declared.Sends.TheVariants.{Nothing, Transition, Refresh}
use Rattle.watch.specs.declared.Conditioning.{Conditioning}
use Rattle.watch.specs.declared.Conditioning.TheVariants.{Unchanged, Begins, Ends}
use Rattle.watch.specs.declared.Event.{Event}
use Rattle.watch.specs.declared.Event.TheVariants.{Passing, Reading, Frame}
use Rattle.watch.specs.declared.Watch.{Watch}

-- what is sent and what becomes of conditioning, as numbers
abbrev pub sends_number : Sends → ℕ
sends_number Nothing = 0
sends_number Transition = 1
sends_number Refresh = 2

abbrev pub conditioning_number : Conditioning → ℕ
conditioning_number Unchanged = 0
conditioning_number Begins = 1
conditioning_number Ends = 2

-- and the states that numbers stand for
abbrev pub originating_numbered : ℕ → Originating
originating_numbered n = cond (eqb n 0) NORMAL ALARM

abbrev pub terminating_numbered : ℕ → Terminating
terminating_numbered n = cond (eqb n 0) NORM (cond (eqb n 1) L-ALARM R-ALARM)

-- a watch is nine numbers: states, refresh, keep-alive, both ends' states, bits, the clocks last sent, last taken and last
unfoldable pub watch_numbers : Watch → List ℕ
watch_numbers w =
    w.states ∷ w.refresh ∷ w.keepalive ∷ originating_number w.originating ∷ terminating_number w.terminating
    ∷ w.bits ∷ w.lastsent ∷ w.lasttaken ∷ w.lastclock ∷ []

unfoldable pub watch_of : List ℕ → Watch
watch_of kept = record {
  states = get_or kept 0 0;
  refresh = get_or kept 1 0;
  keepalive = get_or kept 2 0;
  originating = originating_numbered (get_or kept 3 0);
  terminating = terminating_numbered (get_or kept 4 0);
  bits = get_or kept 5 0;
  lastsent = get_or kept 6 0;
  lasttaken = get_or kept 7 0;
  lastclock = get_or kept 8 0;
}

-- a watch slice of another length
abbrev pub nine_refusal : ℕ → ℕ
nine_refusal n = refuse (not (eqb n 9)) 14

-- or one with a number that fits no field
unfoldable pub watch_refusal : List ℕ → ℕ
watch_refusal kept =
    nine_refusal (length kept)
    or_else refuse (ltb 255 (get_or kept 0 0) || ltb (2 ^ 32 - 1) (get_or kept 1 0) || ltb (2 ^ 32 - 1) (get_or kept 2 0)
    || ltb 1 (get_or kept 3 0) || ltb 2 (get_or kept 4 0) || ltb 255 (get_or kept 5 0)) 14

-- an event that is none
abbrev pub event_refusal21 : ℕ → ℕ
event_refusal21 event = refuse (ltb 2 event) 21

-- time passing, a reading whose flag is the facility alarm, a frame whose flag is its N/A
abbrev pub event_numbered : ℕ → ℕ → ℕ → Event
event_numbered event bits flag = cond (eqb event 0) Passing (cond (eqb event 1) (Reading bits (not (eqb flag 0))) (Frame flag))

-- the answer as numbers: what is sent, its bits and its N/A, and conditioning
abbrev pub tell_numbers : Watched → List ℕ
tell_numbers a = sends_number a.sends ∷ a.bits ∷ a.na ∷ conditioning_number a.conditioning ∷ []

-- what only this form can get wrong
unfoldable pub tell_refusal : ℕ → List ℕ → ℕ
tell_refusal event kept = event_refusal21 event or_else watch_refusal kept

-- the event of these numbers, upon the watch of those that are kept; refused, a number and zeros
unfoldable pub kept_tell : List ℕ → ℕ → ℕ → ℕ → ℕ → Watched
kept_tell kept clock event bits flag =
    if_taken (tell_refusal event kept)
    (event_answer (watch_of kept) clock (event_numbered event bits flag))
    (only (tell_refusal event kept) (fresh_watch 0 0 0 0))

-- the watch that a refused event leaves: that of the numbers, or zeros where this form refuses them
unfoldable pub kept_left : List ℕ → ℕ → Watch
kept_left kept event = if_taken (tell_refusal event kept) (watch_of kept) (fresh_watch 0 0 0 0)
