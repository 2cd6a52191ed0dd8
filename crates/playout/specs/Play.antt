-- Document 01, "Play-out", and numbers 14, 17, 18 and 20 of "Refusal numbers", amended by requests A2 and A10: the decision over a frame's plain fields and the endpoint's record.
use Rattle.std.specs.Prelude.{◌≡◌, ℕ, ◌+◌, ◌-◌, ◌^◌, max, Bool, cond, not, ◌&&◌, ◌||◌, ◌==◌, nat_lt, Result, Ok, Err, IfOk}
use Rattle.octets.specs.Sequence.{next_number}
use Rattle.refusals.specs.Refusals.{◌or_else◌, refuse, if_taken, refusal_of}
use Rattle.refusals.specs.declared.Refusal.{Refusal}
use Rattle.playout.specs.declared.Endpoint.{Endpoint}
use Rattle.playout.specs.declared.Decision.{Decision}
use Rattle.playout.specs.Counts.{stopped, late_after, missing_between}

-- what is decided of a frame: its number, or 0 and when it is due; and the record after it
pub record Decided : Type 0 where
  pub refusal : ℕ
  pub due : ℕ
  pub after : Endpoint

-- when a frame is due, 0 where it is refused
abbrev pub due_of : Result ℕ Refusal → ℕ
due_of (Ok due) = due
due_of (Err r) = 0

-- the paper's number and values
unfoldable pub decision_paper : Decision → Decided
decision_paper d = record { refusal = refusal_of d.due; due = due_of d.due; after = d.after }

-- fresh, all but B are 0
abbrev pub fresh_record : ℕ → Endpoint
fresh_record b = record { buildout = b; rseq = 0; lastclock = 0; end = 0; mlast = 0; lastnoise = 0; scheduled = 0; late = 0; missing = 0 }

-- the play clock is a count of ms up to 2^62
abbrev pub clock_limit : ℕ
clock_limit = 2 ^ 62

abbrev pub buildout_bad : ℕ → Bool
buildout_bad b = nat_lt 199 b

-- B above 199: of 14, what a call judges that has no record
abbrev pub refusal14_b : ℕ → ℕ
refusal14_b b = refuse (buildout_bad b) 14

unfoldable pub record_bad : Endpoint → Bool
record_bad e =
    nat_lt 15 e.rseq || buildout_bad e.buildout || nat_lt 1 e.mlast || nat_lt 15 e.lastnoise
    || nat_lt clock_limit e.lastclock || nat_lt (e.lastclock + 455) e.end

-- record out of range
abbrev pub refusal14 : Endpoint → ℕ
refusal14 e = refuse (record_bad e) 14

-- clock below last clock, or above 2^62
abbrev pub refusal18 : Endpoint → ℕ → ℕ
refusal18 e clock = refuse (nat_lt clock e.lastclock || nat_lt clock_limit clock) 18

-- the frame is due at end by sequence: its sequence is neither 0 nor other than RSEQ
unfoldable pub in_turn : Endpoint → ℕ → Bool
in_turn e seq = not (seq == 0) && seq == e.rseq

-- how long a frame of this stamp is held back from its arrival
abbrev pub hold : ℕ → ℕ → ℕ
hold b stamp = b - stamp

-- the later of clock + B - stamp and end, or in turn end
unfoldable pub due_at : Endpoint → ℕ → ℕ → ℕ → ℕ
due_at e clock stamp seq = cond (in_turn e seq) e.end (max (clock + hold e.buildout stamp) e.end)

-- stamp above B
abbrev pub stamp_late : ℕ → ℕ → Bool
stamp_late b stamp = nat_lt b stamp

-- late for a call that has no record
abbrev pub refusal17_b : ℕ → ℕ → ℕ
refusal17_b b stamp = refuse (stamp_late b stamp) 17

-- late: stamp above B, or due at end by sequence and clock past end
abbrev pub refusal17 : Endpoint → ℕ → ℕ → ℕ → ℕ
refusal17 e clock stamp seq = refuse (stamp_late e.buildout stamp || in_turn e seq && nat_lt e.end clock) 17

-- due more than 439 ms after clock
abbrev pub refusal20 : Endpoint → ℕ → ℕ → ℕ → ℕ
refusal20 e clock stamp seq = refuse (nat_lt (clock + 439) (due_at e clock stamp seq)) 20

-- arrival: 14, 18, what the frame itself gives (1 to 5 with 24, 19, 6 to 9), 17, 20
unfoldable pub play_refusal : Endpoint → ℕ → ℕ → ℕ → ℕ → ℕ
play_refusal e clock given stamp seq =
    refusal14 e or_else refusal18 e clock or_else given or_else refusal17 e clock stamp seq or_else refusal20 e clock stamp seq

-- of what is not refused, when it is due
abbrev pub Due : Endpoint → ℕ → ℕ → ℕ → Result ℕ Refusal → Type 0
Due e clock stamp seq r = IfOk r (λ due. due ≡ due_at e clock stamp seq)

-- RSEQ after a frame: the next number if its more bit is 1, else 0
abbrev pub rseq_after : ℕ → ℕ → ℕ
rseq_after seq more = cond (more == 1) (next_number seq) 0

-- the record after a frame that is scheduled
abbrev pub after_scheduled : Endpoint → ℕ → ℕ → ℕ → ℕ → ℕ → Endpoint
after_scheduled e clock seq more noise due = record {
  buildout = e.buildout;
  rseq = rseq_after seq more;
  lastclock = clock;
  end = due + 16;
  mlast = more;
  lastnoise = noise;
  scheduled = stopped (e.scheduled + 1);
  late = e.late;
  missing = stopped (e.missing + missing_between e.rseq seq);
}

abbrev pub scheduled_at : Endpoint → ℕ → ℕ → ℕ → ℕ → ℕ → Decided
scheduled_at e clock seq more noise due = record { refusal = 0; due = due; after = after_scheduled e clock seq more noise due }

-- A2: a frame refused with 17 or 20 still stores its more bit and noise
abbrev pub still_stores : ℕ → Bool
still_stores n = n == 17 || n == 20

-- the record after a frame that is refused: 17 and 20 store those two, 17 counts as late (A10), and nothing else changes; every other number leaves it whole
abbrev pub after_refused : Endpoint → ℕ → ℕ → ℕ → Endpoint
after_refused e n more noise = record {
  buildout = e.buildout;
  rseq = e.rseq;
  lastclock = e.lastclock;
  end = e.end;
  mlast = cond (still_stores n) more e.mlast;
  lastnoise = cond (still_stores n) noise e.lastnoise;
  scheduled = e.scheduled;
  late = late_after n e.late;
  missing = e.missing;
}

abbrev pub refused_with : Endpoint → ℕ → ℕ → ℕ → Decided
refused_with e n more noise = record { refusal = n; due = 0; after = after_refused e n more noise }

unfoldable pub decision : Endpoint → ℕ → ℕ → ℕ → ℕ → ℕ → ℕ → Decided
decision e clock given stamp seq more noise =
    if_taken (play_refusal e clock given stamp seq)
    (scheduled_at e clock seq more noise (due_at e clock stamp seq))
    (refused_with e (play_refusal e clock given stamp seq) more noise)
