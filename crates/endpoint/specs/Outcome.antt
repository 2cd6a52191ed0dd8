-- An answer without its samples, which a call that is lent the samples' slice writes there itself. No promise of a host's call cites it.
use Rattle.std.specs.Prelude.{ℕ, List, Result, Ok, Err}
use Rattle.refusals.specs.Refusals.{number}
use Rattle.refusals.specs.declared.Refusal.{Refusal}
use Rattle.playout.specs.declared.Endpoint.{Endpoint}
use Rattle.endpoint.specs.declared.Told.{Told}
use Rattle.endpoint.specs.declared.Scheduled.{Scheduled}
use Rattle.endpoint.specs.declared.Judged.{Judged}
use Rattle.endpoint.specs.Read.{Heard, heard_of}
use Rattle.endpoint.specs.Arrival.{Moved}

-- zeros where a frame is refused
unfoldable pub told_paper : Result Told Refusal → Told
told_paper (Ok t) = t
told_paper (Err r) = record { s = 0; dropped = 0; width = 0 }

abbrev pub told_of : Heard → Told
told_of h = record { s = h.s; dropped = h.dropped; width = h.width }

-- what is told of a frame, or what it is refused by, which is handed on: a `Refusal`, a number or anything else
abbrev pub told_or : {E : Type 0} → Result (Unit {0}) E → List ℕ → Result Told E
told_or (Ok u) f = Ok (told_of (heard_of 0 f))
told_or (Err r) f = Err r

-- and its samples, zeros where it is refused: the number is of no account, and 1 stands for any
abbrev pub samples_or : {A E : Type 0} → Result A E → List ℕ → List ℕ
samples_or (Ok a) f = (heard_of 0 f).samples
samples_or (Err r) f = (heard_of 1 f).samples

pub record Outcome : Type 0 where
  pub refusal : ℕ
  pub due : ℕ
  pub reset : ℕ
  pub s : ℕ
  pub dropped : ℕ
  pub width : ℕ
  pub after : Endpoint

-- what is judged of a frame, and the record after it
abbrev outcome_with : Result Scheduled Refusal → Endpoint → Outcome
outcome_with (Ok a) e = record { refusal = 0; due = a.due; reset = a.reset; s = a.told.s; dropped = a.told.dropped; width = a.told.width; after = e }
outcome_with (Err r) e = record { refusal = number r; due = 0; reset = 0; s = 0; dropped = 0; width = 0; after = e }

unfoldable pub outcome_paper : Judged → Outcome
outcome_paper j = outcome_with j.outcome j.after

abbrev pub outcome_of : Moved → Outcome
outcome_of a = record {
  refusal = a.answer.refusal;
  due = a.answer.due;
  reset = a.answer.reset;
  s = a.answer.s;
  dropped = a.answer.dropped;
  width = a.answer.width;
  after = a.after;
}
