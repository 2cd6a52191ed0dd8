-- Document 01, "Order": what a call that writes a frame answers and leaves in its buffer, refused or not.
use Rattle.std.specs.Prelude.{ℕ, List, ◌++◌, length, drop, Result, Ok, Err}
use Rattle.refusals.specs.Refusals.{if_taken, number}
use Rattle.refusals.specs.declared.Refusal.{Refusal}

pub record Sent : Type 0 where
  pub refusal : ℕ
  pub length : ℕ

-- the paper's number and values for each case
unfoldable pub sent_paper : Result ℕ Refusal → Sent
sent_paper (Ok n) = record { refusal = 0; length = n }
sent_paper (Err r) = record { refusal = number r; length = 0 }

-- the length of the frame written, or the number with 0
unfoldable pub sent_answer : ℕ → List ℕ → Sent
sent_answer refusal written = if_taken refusal (record { refusal = 0; length = length written }) (record { refusal = refusal; length = 0 })

-- the frame written and the rest as it came, or all as it came
unfoldable pub sent_buffer : ℕ → List ℕ → List ℕ → List ℕ
sent_buffer refusal written out = if_taken refusal (written ++ drop (length written) out) out
