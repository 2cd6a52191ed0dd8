-- Laws of a burst: what a step sends is in range, and SSEQ stays so over any list of calls.
use Prim.Native.Nat.{ℕ, zero, suc, ◌+◌, ◌≤◌}
use mathlib.Core.Path.{◌≡◌, refl}
use mathlib.Core.Bool.{Bool, true, false, cond}
use mathlib.Core.List.{List, [], ◌∷◌}
use native.Mathlib.Omega.{arith}
use lib.Dec.{leb}
use borrow.Author.Tests.{leb-false}
use Rattle.octets.specs.Sequence.{next_number}
use Rattle.refusals.specs.Refusals.{if_taken}
use Rattle.origin.specs.declared.Step.{Step}
use Rattle.origin.specs.declared.Step.TheVariants.{Start, Data, Stop}
use Rattle.origin.specs.Burst.{refusal13, sequence_sent, more_sent, sseq_set, sseq_after}

pub sequence_le : (step : Step) (sseq : ℕ) → sseq ≤ 15 → sequence_sent step sseq ≤ 15
sequence_le Start sseq h = omega arith
sequence_le Data sseq h = h
sequence_le Stop sseq h = h

pub more_le : (step : Step) → more_sent step ≤ 1
more_le Start = omega arith
more_le Data = omega arith
more_le Stop = omega arith

next_le : (n : ℕ) → next_number n ≤ 15
next_le n = go (leb 15 n) refl
  where
    go : (b : Bool) → leb 15 n ≡ b → cond b 1 (n + 1) ≤ 15
    go true e = omega arith
    go false e = omega (arith, leb-false 15 n e)

pub set_le : (step : Step) (sseq : ℕ) → sseq_set step sseq ≤ 15
set_le Start sseq = omega arith
set_le Data sseq = next_le sseq
set_le Stop sseq = omega arith

-- a call that is taken, or refused
pub kept_le : (r : ℕ) (step : Step) (sseq : ℕ) → sseq ≤ 15 → if_taken r (sseq_set step sseq) sseq ≤ 15
kept_le zero step sseq h = set_le step sseq
kept_le (suc r) step sseq h = h

-- any list of calls
pub after_le : (sseq : ℕ) (steps : List Step) → sseq ≤ 15 → sseq_after sseq steps ≤ 15
unfolding sseq_after
after_le sseq [] h = h
after_le sseq (step ∷ steps) h = after_le (if_taken (refusal13 step sseq) (sseq_set step sseq) sseq) steps (kept_le (refusal13 step sseq) step sseq h)

pub burst_le : (steps : List Step) → sseq_after 0 steps ≤ 15
burst_le steps = after_le 0 steps (omega arith)
