-- Request A8, "the node call on each record in turn": the calls themselves, made one after the other. No promise cites what stands here.
use Rattle.std.specs.Prelude.{ℕ, ◌+◌, ◌<◌, List, [], ◌∷◌, length, take, drop}
use Rattle.refusals.specs.Refusals.{◌or_else◌, if_taken, refusal10, refusal15}
use Rattle.frame.specs.Orders.{taken_refusal}
use Rattle.node.specs.Node.{forward_answer, forward_buffer}
use Rattle.onward.specs.Sent.{Sent}
use Rattle.tray.specs.Tray.{Passed, with_first}

-- the node's order where there is room enough: without 16
unfoldable pub roomy_refusal : ℕ → ℕ → List ℕ → ℕ
roomy_refusal level addr f = refusal10 level or_else refusal15 addr or_else taken_refusal f

-- frames whose records' lengths go into two octets
abbrev pub Fit : List (List ℕ) → Type 0
Fit [] = Unit {0}
Fit (f ∷ fs) = (length f + 2 < 65536) × Fit fs

module _ (level wait addr : ℕ) where
  -- the node's call on a frame, lent what is left of the buffer after the four octets of its record
  abbrev pub answer_of : List ℕ → List ℕ → Sent
  answer_of f out = forward_answer level wait addr f (drop 4 out)

  -- the frame that it writes
  abbrev pub written_of : List ℕ → List ℕ → List ℕ
  written_of f out = take (answer_of f out).length (forward_buffer level wait addr f (drop 4 out))

  -- what is left of the buffer for the frames behind it
  unfoldable pub left_of : List ℕ → List ℕ → List ℕ
  left_of f out = if_taken (answer_of f out).refusal (drop (4 + (answer_of f out).length) out) out

  unfoldable pub in_turn : List (List ℕ) → List ℕ → Passed
  in_turn [] out = record { refusals = []; sent = [] }
  in_turn (f ∷ fs) out =
      with_first (answer_of f out).refusal (if_taken (answer_of f out).refusal (written_of f out ∷ []) []) (in_turn fs (left_of f out))
