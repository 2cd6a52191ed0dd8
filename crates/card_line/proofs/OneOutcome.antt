-- Of each exported call of a line, two outcomes that the promise allows are equal: its number, and every slice that is lent.
use Prim.Native.Nat.{ℕ}
use mathlib.Core.List.{List}
use lib.ListN.{length}
use Rattle.refusals.specs.Refusals.{if_taken}
use Rattle.line.specs.Calls.{add_answer, add_line, next_answer, next_out}
use Rattle.card.specs.Card.{short}
use Rattle.card.proofs.OneOutcome.{One, one, Answers, answers}
use Rattle.card_line.specs.Lines.{added_numbers, taken_off_numbers}

module _ (line answer : List ℕ) (count : ℕ) where
  pub line_add_one : (frame : List ℕ) → let a = add_answer line count frame in
      Answers (short 1 answer) a.refusal (added_numbers a) answer × One (if_taken (short 1 answer) (add_line line count frame) line)
  line_add_one frame = (answers _ _ _ answer, one _)

  pub line_next_one : (place : ℕ) (out : List ℕ) → let a = next_answer line count place (length out) in
      Answers (short 3 answer) a.refusal (taken_off_numbers a) answer × One (if_taken (short 3 answer) (next_out line count place out) out)
  line_next_one place out = (answers _ _ _ answer, one _)
