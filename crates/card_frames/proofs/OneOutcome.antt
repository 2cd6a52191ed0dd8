-- Of each exported call of origin and node, two outcomes that the promise allows are equal: its number, and every slice and number that is lent.
use Prim.Native.Nat.{ℕ}
use mathlib.Core.List.{List}
use lib.ListN.{length}
use Rattle.refusals.specs.Refusals.{if_taken}
use Rattle.frame.specs.Calls.{link_answer, taken_answer}
use Rattle.onward.specs.Sent.{Sent}
use Rattle.node.specs.Node.{forward_answer, forward_buffer}
use Rattle.origin.specs.Signal.{signal_answer as signalSent, signal_buffer}
use Rattle.card.specs.Card.{short}
use Rattle.card.proofs.OneOutcome.{One, one, Answers, answers}
use Rattle.card_frames.specs.Frames.{sent_numbers, link_numbers, taken_numbers, step_answer, step_buffer, step_sseq}

-- a call that writes a frame: what it answers, and its buffer
abbrev Sends : Sent → List ℕ → List ℕ → List ℕ → Type 0
Sends a buffer out answer = Answers (short 1 answer) a.refusal (sent_numbers a) answer × One (if_taken (short 1 answer) buffer out)

sends : (a : Sent) (buffer out answer : List ℕ) → Sends a buffer out answer
sends a buffer out answer = (answers (short 1 answer) a.refusal (sent_numbers a) answer, one (if_taken (short 1 answer) buffer out))

module _ (wait addr : ℕ) (f out answer samples : List ℕ) where
  pub send_one : (sseq step coding noise level : ℕ)
      → Sends (step_answer sseq step coding noise samples level wait addr out) (step_buffer sseq step coding noise samples level wait addr out) out answer
      × One (if_taken (short 1 answer) (step_sseq sseq step coding noise samples level wait addr (length out)) sseq)
  send_one sseq step coding noise level = (sends _ _ out answer, one _)

  pub signal_write_one : (bits na : ℕ) → Sends (signalSent bits na wait addr out) (signal_buffer bits na wait addr out) out answer
  signal_write_one bits na = sends _ _ out answer

  pub forward_one : (level : ℕ) → Sends (forward_answer level wait addr f out) (forward_buffer level wait addr f out) out answer
  forward_one level = sends _ _ out answer

  pub link_one : Answers (short 2 answer) (link_answer f).refusal (link_numbers (link_answer f)) answer
  link_one = answers _ _ _ answer

  pub taken_one : Answers (short 3 answer) (taken_answer f).refusal (taken_numbers (taken_answer f)) answer
  taken_one = answers _ _ _ answer
