-- Document 01's calls of origin and node as a host makes them, on numbers and on slices that it lends.
use Rattle.std.specs.Prelude.{ℕ, List, [], ◌∷◌, ltb}
use Rattle.refusals.specs.Refusals.{if_taken, refuse}
use Rattle.frame.specs.Calls.{Link, Taken}
use Rattle.onward.specs.Sent.{Sent}
use Rattle.origin.specs.Burst.{step_numbered}
use Rattle.origin.specs.Send.{send_answer, send_buffer, send_sseq}
use Rattle.card.specs.Card.{flag}

-- the answers as numbers, in their order
abbrev pub sent_numbers : Sent → List ℕ
sent_numbers a = a.length ∷ []

abbrev pub link_numbers : Link → List ℕ
link_numbers a = flag a.voice ∷ a.address ∷ []

abbrev pub taken_numbers : Taken → List ℕ
taken_numbers a = flag a.voice ∷ a.length ∷ a.c ∷ []

-- a step that is none
abbrev pub step_refusal : ℕ → ℕ
step_refusal n = refuse (ltb 2 n) 13

-- the origin's call on the number of a step: a step that is none is refused, and nothing is touched
module _ (sseq step coding noise : ℕ) (samples : List ℕ) (level wait addr : ℕ) where
  unfoldable pub step_answer : List ℕ → Sent
  step_answer out =
      if_taken (step_refusal step)
      (send_answer sseq (step_numbered step) coding noise samples level wait addr out)
      (record { refusal = step_refusal step; length = 0 })

  unfoldable pub step_buffer : List ℕ → List ℕ
  step_buffer out = if_taken (step_refusal step) (send_buffer sseq (step_numbered step) coding noise samples level wait addr out) out

  unfoldable pub step_sseq : ℕ → ℕ
  step_sseq room = if_taken (step_refusal step) (send_sseq sseq (step_numbered step) coding noise samples level wait addr room) sseq
