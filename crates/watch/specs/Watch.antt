-- Document 02, A1: a circuit's watch. What a circuit may be provisioned with, the refusals, and what an event answers by the table.
use Rattle.std.specs.Prelude.{ℕ, ◌+◌, ◌*◌, ◌/◌, ◌^◌, Bool, true, false, not, cond, ◌&&◌, ◌||◌, ltb, leb, eqb, Result, Ok, Err}
use Rattle.refusals.specs.Refusals.{◌or_else◌, refuse, if_taken, refusal12, number}
use Rattle.refusals.specs.declared.Refusal.{Refusal}
use Rattle.watch.specs.Table.{comes}
use Rattle.watch.specs.declared.Originating.{Originating}
use Rattle.watch.specs.declared.Originating.TheVariants.{Norm as NORMAL, Alarm as ALARM}
use Rattle.watch.specs.declared.Terminating.{Terminating}
use Rattle.watch.specs.declared.Terminating.TheVariants.{Norm as NORM, LAlarm as L-ALARM, RAlarm as R-ALARM}
use Rattle.watch.specs.declared.Coming.{Coming}
use Rattle.watch.specs.declared.Coming.TheVariants.{NoChange, RunOut, NormalFrame, AlarmFrame, FacilityAlarm, SameBits, ChangedBits, RefreshDue}
use Rattle.watch.specs.declared.Sends.{Sends}
use Rattle.watch.specs.declared.Sends.TheVariants.{Nothing, Transition, Refresh}
use Rattle.watch.specs.declared.Conditioning.{Conditioning}
use Rattle.watch.specs.declared.Conditioning.TheVariants.{Unchanged}
use Rattle.watch.specs.declared.Row.{Row}
use Rattle.watch.specs.declared.Watch.{Watch}
use Rattle.watch.specs.declared.Watched.{Watched as Done}
use Rattle.watch.specs.declared.Event.{Event}
use Rattle.watch.specs.declared.Event.TheVariants.{Passing, Reading, Frame}

-- clocks are counts of ms up to 2^62
abbrev pub clock_limit : ℕ
clock_limit = 2 ^ 62

-- none, refresh only, or 2, 4 or 16 states
abbrev pub states_offered : ℕ → Bool
states_offered n = eqb n 0 || eqb n 1 || eqb n 2 || eqb n 4 || eqb n 16

-- TSIG_REF in ms: 1, 5, 10 or 20 s
abbrev pub refresh_offered : ℕ → Bool
refresh_offered ms = eqb ms 1000 || eqb ms 5000 || eqb ms 10000 || eqb ms 20000

-- TSIG_KA in ms: that times 1.5, 2.5, 3.5 or 4.5
abbrev pub keep_alive_offered : ℕ → ℕ → Bool
keep_alive_offered refresh ms =
    eqb (ms * 10) (refresh * 15) || eqb (ms * 10) (refresh * 25) || eqb (ms * 10) (refresh * 35) || eqb (ms * 10) (refresh * 45)

-- a parameter not offered
abbrev pub refusal21 : ℕ → ℕ → ℕ → ℕ
refusal21 states refresh keepalive =
    refuse (not (states_offered states && refresh_offered refresh && keep_alive_offered refresh keepalive)) 21

-- a kept clock above 2^62 or later than the last event's
abbrev pub refusal14 : Watch → ℕ
refusal14 w = refuse (ltb clock_limit w.lastclock || ltb w.lastclock w.lastsent || ltb w.lastclock w.lasttaken) 14

-- a clock below the last event's, or above 2^62
abbrev pub refusal18 : ℕ → ℕ → ℕ
refusal18 last clock = refuse (ltb clock last || ltb clock_limit clock) 18

-- 12 of what the event brings: the bits of a reading, the N/A of a frame
abbrev pub brought12 : Event → ℕ
brought12 Passing = 0
brought12 (Reading bits alarm) = refusal12 bits 0
brought12 (Frame na) = refusal12 0 na

-- 21, 14, 18, 12, which judges the bits kept and those that come
unfoldable pub event_refusal : Watch → ℕ → Event → ℕ
event_refusal w clock e =
    refusal21 w.states w.refresh w.keepalive or_else refusal14 w or_else refusal18 w.lastclock clock
    or_else refusal12 w.bits 0 or_else brought12 e

-- the start has no clock before it
unfoldable pub start_refusal : ℕ → ℕ → ℕ → ℕ → ℕ
start_refusal states refresh keepalive clock = refusal21 states refresh keepalive or_else refusal18 0 clock

-- of four bits, those in use: A for 2 states, A and B for 4, all for 16, and none otherwise
abbrev pub in_use : ℕ → ℕ → ℕ
in_use states bits = cond (eqb states 2) (bits / 8) (cond (eqb states 4) (bits / 4) (cond (eqb states 16) bits 0))

-- what comes when the clock is ms or more past from
abbrev pub when_past : ℕ → ℕ → ℕ → Coming → Coming
when_past clock from ms coming = cond (leb (from + ms) clock) coming NoChange

-- keep-alive has run out when the clock is TSIG_KA or more past the last frame taken, or the start
abbrev pub keep_alive : Watch → ℕ → Coming
keep_alive w clock = when_past clock w.lasttaken w.keepalive RunOut

abbrev pub reading : ℕ → ℕ → ℕ → Bool → Coming
reading states kept bits alarm = cond alarm FacilityAlarm (cond (eqb (in_use states bits) (in_use states kept)) SameBits ChangedBits)

-- what the event itself brings
abbrev pub brought : Watch → Event → Coming
brought w Passing = NoChange
brought w (Reading bits alarm) = reading w.states w.bits bits alarm
brought w (Frame na) = cond (eqb na 0) NormalFrame AlarmFrame

-- a frame is sent, of either kind
abbrev pub is_sent : Sends → Bool
is_sent Nothing = false
is_sent Transition = true
is_sent Refresh = true

-- the clock of the last frame sent
abbrev pub sent_after : Sends → ℕ → ℕ → ℕ
sent_after sends clock last = cond (is_sent sends) clock last

-- a refresh is due when the clock is TSIG_REF or more past the last frame sent, or the start
abbrev pub refresh_due : Watch → ℕ → Sends → Coming
refresh_due w clock sends = when_past clock (sent_after sends clock w.lastsent) w.refresh RefreshDue

abbrev pub standing : Watch → Row
standing w = record { originating = w.originating; terminating = w.terminating; sends = Nothing; conditioning = Unchanged }

-- run-out is judged before the event's own frame, and the refresh last
unfoldable pub judged : Watch → ℕ → Event → Row
judged w clock e = comes (comes (standing w) (keep_alive w clock)) (brought w e)

unfoldable pub event_row : Watch → ℕ → Event → Row
event_row w clock e =
    comes (judged w clock e) (refresh_due w clock (judged w clock e).sends)

-- the signalling state is frozen in ALARM
abbrev pub bits_after : ℕ → Event → ℕ
bits_after kept Passing = kept
bits_after kept (Reading bits alarm) = cond alarm kept bits
bits_after kept (Frame na) = kept

-- the event is a frame taken
abbrev pub is_frame : Event → Bool
is_frame Passing = false
is_frame (Reading bits alarm) = false
is_frame (Frame na) = true

-- the clock of the last frame taken
abbrev pub taken_after : Event → ℕ → ℕ → ℕ
taken_after e clock last = cond (is_frame e) clock last

-- N/A is 1 under a facility alarm and while the own terminating end is in L_ALARM
abbrev pub na_of : Originating → Terminating → ℕ
na_of ALARM t = 1
na_of NORMAL NORM = 0
na_of NORMAL L-ALARM = 1
na_of NORMAL R-ALARM = 0

abbrev pub if_sent : Sends → ℕ → ℕ
if_sent sends x = cond (is_sent sends) x 0

-- both ends start in NORM, the bits count as 0, and the start's clock is kept
abbrev pub fresh_watch : ℕ → ℕ → ℕ → ℕ → Watch
fresh_watch states refresh keepalive clock = record {
  states = states;
  refresh = refresh;
  keepalive = keepalive;
  originating = NORMAL;
  terminating = NORM;
  bits = 0;
  lastsent = clock;
  lasttaken = clock;
  lastclock = clock;
}

-- the watch after an event that left this row
abbrev pub moved : Watch → ℕ → Event → Row → Watch
moved w clock e left = record {
  states = w.states;
  refresh = w.refresh;
  keepalive = w.keepalive;
  originating = left.originating;
  terminating = left.terminating;
  bits = bits_after w.bits e;
  lastsent = sent_after left.sends clock w.lastsent;
  lasttaken = taken_after e clock w.lasttaken;
  lastclock = clock;
}

-- what a call answers: its number, the frame to be sent with its bits and N/A, whether conditioning changes, and the watch after it
pub record Watched : Type 0 where
  pub refusal : ℕ
  pub sends : Sends
  pub bits : ℕ
  pub na : ℕ
  pub conditioning : Conditioning
  pub after : Watch

-- nothing is sent, and conditioning does not change
abbrev pub only : ℕ → Watch → Watched
only n w = record { refusal = n; sends = Nothing; bits = 0; na = 0; conditioning = Unchanged; after = w }

unfoldable pub answered : Watch → ℕ → Event → Row → Watched
answered w clock e left = record {
  refusal = 0;
  sends = left.sends;
  bits = if_sent left.sends (bits_after w.bits e);
  na = if_sent left.sends (na_of left.originating left.terminating);
  conditioning = left.conditioning;
  after = moved w clock e left;
}

unfoldable pub start_answer : ℕ → ℕ → ℕ → ℕ → Watched
start_answer states refresh keepalive clock =
    if_taken (start_refusal states refresh keepalive clock)
    (only 0 (fresh_watch states refresh keepalive clock))
    (only (start_refusal states refresh keepalive clock) (fresh_watch 0 0 0 0))

-- a refused event changes nothing; upon a circuit with none nothing comes but time
unfoldable pub event_answer : Watch → ℕ → Event → Watched
event_answer w clock e =
    if_taken (event_refusal w clock e)
    (cond (eqb w.states 0) (answered w clock Passing (standing w)) (answered w clock e (event_row w clock e)))
    (only (event_refusal w clock e) w)

-- the paper's number and values for each case: a start that is refused has a watch of zeros, a refused event the watch that it came upon
unfoldable pub start_paper : Result Watch Refusal → Watched
start_paper (Ok w) = only 0 w
start_paper (Err r) = only (number r) (fresh_watch 0 0 0 0)

unfoldable pub watched_paper : Watch → Result Done Refusal → Watched
watched_paper w (Ok a) = record {
  refusal = 0;
  sends = a.sends;
  bits = a.bits;
  na = a.na;
  conditioning = a.conditioning;
  after = a.after;
}
watched_paper w (Err r) = only (number r) w
