-- Document 01, "Origin and node": SSEQ, 0 outside a burst and 1 to 15 inside, and what each step sends and sets.
use Rattle.std.specs.Prelude.{◌≡◌, ℕ, not, cond, ltb, eqb, List, [], ◌∷◌, Result, Ok, Err}
use Rattle.octets.specs.Sequence.{next_number}
use Rattle.refusals.specs.Refusals.{refuse, if_taken}
use Rattle.refusals.specs.declared.Refusal.{Refusal}
use Rattle.refusals.specs.declared.Refusal.TheVariants.{OutOfTurn}
use Rattle.origin.specs.declared.Step.{Step}
use Rattle.origin.specs.declared.Step.TheVariants.{Start, Data, Stop}

-- SSEQ above 15
abbrev pub refusal14 : ℕ → ℕ
refusal14 sseq = refuse (ltb 15 sseq) 14

-- START inside a burst, DATA or STOP outside
abbrev pub refusal13 : Step → ℕ → ℕ
refusal13 Start sseq = refuse (not (eqb sseq 0)) 13
refusal13 Data sseq = refuse (eqb sseq 0) 13
refusal13 Stop sseq = refuse (eqb sseq 0) 13

-- START sends sequence 0; DATA and STOP send SSEQ
abbrev pub sequence_sent : Step → ℕ → ℕ
sequence_sent Start sseq = 0
sequence_sent Data sseq = sseq
sequence_sent Stop sseq = sseq

-- the more bit is 0 in STOP alone
abbrev pub more_sent : Step → ℕ
more_sent Start = 1
more_sent Data = 1
more_sent Stop = 0

-- START sets 1, DATA the next number, STOP 0
abbrev pub sseq_set : Step → ℕ → ℕ
sseq_set Start sseq = 1
sseq_set Data sseq = next_number sseq
sseq_set Stop sseq = 0

-- SSEQ after a list of steps, of which those out of turn are refused and leave it
unfoldable pub sseq_after : ℕ → List Step → ℕ
sseq_after sseq [] = sseq
sseq_after sseq (step ∷ steps) = sseq_after (if_taken (refusal13 step sseq) (sseq_set step sseq) sseq) steps

-- a step by its number: 0 START, 1 DATA, 2 STOP
abbrev pub step_numbered : ℕ → Step
step_numbered n = cond (eqb n 0) Start (cond (eqb n 1) Data Stop)

-- and the numbers that are none
abbrev pub StepOf : ℕ → Result Step Refusal → Type 0
StepOf n r = r ≡ cond (ltb 2 n) (Err OutOfTurn) (Ok (step_numbered n))
