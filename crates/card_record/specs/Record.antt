-- Document 01's record of the endpoint, amended by request A10, as a host keeps it: nine numbers, and the arrival on them.
use Rattle.std.specs.Prelude.{ℕ, Bool, not, ◌||◌, List, [], ◌∷◌, ltb, eqb, get_or, replicate, Result, Ok, Err}
use Rattle.refusals.specs.Refusals.{if_taken, refuse}
use Rattle.refusals.specs.declared.Refusal.{Refusal}
use Rattle.endpoint.specs.Arrival.{ArrivalHeard, Moved, arrival_of}
use Rattle.playout.specs.declared.Endpoint.{Endpoint}
use Rattle.playout.specs.Counts.{count_limit}
use Rattle.endpoint.specs.declared.Scheduled.{Scheduled}

-- the answer as numbers, in their order
abbrev pub arrival_numbers : ArrivalHeard → List ℕ
arrival_numbers a = a.due ∷ a.reset ∷ a.s ∷ a.dropped ∷ a.width ∷ []

-- the same of what is judged of a frame, zeros where it is refused
abbrev pub told_numbers : Result Scheduled Refusal → List ℕ
told_numbers (Ok a) = a.due ∷ a.reset ∷ a.told.s ∷ a.told.dropped ∷ a.told.width ∷ []
told_numbers (Err r) = 0 ∷ 0 ∷ 0 ∷ 0 ∷ 0 ∷ []

-- the endpoint's record is nine numbers: B, RSEQ, last clock, end, M_LAST, last noise, scheduled, late, missing
abbrev pub record_numbers : Endpoint → List ℕ
record_numbers e =
    e.buildout ∷ e.rseq ∷ e.lastclock ∷ e.end ∷ e.mlast ∷ e.lastnoise ∷ e.scheduled ∷ e.late ∷ e.missing ∷ []

abbrev pub record_of : List ℕ → Endpoint
record_of kept = record {
  buildout = get_or kept 0 0;
  rseq = get_or kept 1 0;
  lastclock = get_or kept 2 0;
  end = get_or kept 3 0;
  mlast = get_or kept 4 0;
  lastnoise = get_or kept 5 0;
  scheduled = get_or kept 6 0;
  late = get_or kept 7 0;
  missing = get_or kept 8 0;
}

-- a record slice of another length
abbrev pub record_refusal : ℕ → ℕ
record_refusal n = refuse (not (eqb n 9)) 14

-- a number, and zeros elsewhere
abbrev pub refused_arrival : ℕ → ArrivalHeard
refused_arrival n = record { refusal = n; due = 0; reset = 0; s = 0; dropped = 0; width = 0; samples = replicate 128 0 }

-- a count that fits no field, of which the arrival itself tests nothing
abbrev pub count_unfit : Endpoint → Bool
count_unfit e = ltb count_limit e.scheduled || ltb count_limit e.late || ltb count_limit e.missing

-- the arrival on nine numbers: where a count is unfit 14, and the record as it came
unfoldable pub numbers_arrival : Endpoint → List ℕ → ℕ → Moved
numbers_arrival e f clock =
    if_taken (refuse (count_unfit e) 14) (arrival_of e f clock) (record { answer = refused_arrival 14; after = e })
