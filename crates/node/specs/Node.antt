-- Document 01, "Origin and node" and "Order": what a node refuses, answers and leaves in its buffer.
use Rattle.std.specs.Prelude.{ℕ, ◌^◌, ◌≤◌, ◌<◌, ◌≡◌, List, length}
use Rattle.refusals.specs.Refusals.{◌or_else◌, refusal10, refusal15, refusal16}
use Rattle.frame.specs.Orders.{taken_refusal}
use Rattle.onward.specs.Onward.{onward}
use Rattle.onward.specs.Sent.{Sent, sent_answer, sent_buffer}

-- 10, 15, 1 to 5 with 24, then 6 (voice only), 7, 8, 9, 16
unfoldable pub forward_refusal : ℕ → ℕ → ℕ → List ℕ → ℕ → ℕ
forward_refusal level wait addr f room =
    refusal10 level or_else refusal15 addr or_else taken_refusal f or_else refusal16 room (length (onward level wait addr f))

unfoldable pub forward_answer : ℕ → ℕ → ℕ → List ℕ → List ℕ → Sent
forward_answer level wait addr f out = sent_answer (forward_refusal level wait addr f (length out)) (onward level wait addr f)

unfoldable pub forward_buffer : ℕ → ℕ → ℕ → List ℕ → List ℕ → List ℕ
forward_buffer level wait addr f out = sent_buffer (forward_refusal level wait addr f (length out)) (onward level wait addr f) out

-- what a frame that is sent on, of n octets, and its buffer have
pub record Sendable (n level wait addr : ℕ) (f out : List ℕ) : Type 0 where
  pub size : n ≡ length (onward level wait addr f)
  pub long : 10 ≤ n
  pub within : n ≤ length f
  pub room : n ≤ length out
  pub brief : wait < 2 ^ 32
  pub ranged : addr < 8192
