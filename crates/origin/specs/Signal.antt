-- Document 01, "Frame layout", "Origin and node" and "Order": the signalling frame, which starts at stamp 0 too.
use Rattle.std.specs.Prelude.{ℕ, ◌+◌, ◌*◌, ◌/◌, ◌%◌, List, [], ◌∷◌, length}
use Rattle.refusals.specs.Refusals.{◌or_else◌, refusal12, refusal15, refusal16}
use Rattle.onward.specs.Onward.{framed, onward}
use Rattle.onward.specs.Sent.{Sent, sent_answer, sent_buffer}

unfoldable pub signal_head : ℕ → ℕ → ℕ → List ℕ
signal_head addr na bits =
    addr / 128 * 4 ∷ (addr % 128 * 2 + 1) ∷ 3 ∷ 68 ∷ 0 ∷ 0 ∷ na ∷ bits ∷ []

-- no block is there to be dropped
unfoldable pub signal_written : ℕ → ℕ → ℕ → ℕ → List ℕ
signal_written bits na wait addr = onward 0 wait addr (framed (signal_head addr na bits) [])

-- 12, 15, 16
unfoldable pub signal_refusal : ℕ → ℕ → ℕ → ℕ → ℕ → ℕ
signal_refusal bits na wait addr room =
    refusal12 bits na or_else refusal15 addr or_else refusal16 room (length (signal_written bits na wait addr))

unfoldable pub signal_answer : ℕ → ℕ → ℕ → ℕ → List ℕ → Sent
signal_answer bits na wait addr out = sent_answer (signal_refusal bits na wait addr (length out)) (signal_written bits na wait addr)

unfoldable pub signal_buffer : ℕ → ℕ → ℕ → ℕ → List ℕ → List ℕ
signal_buffer bits na wait addr out = sent_buffer (signal_refusal bits na wait addr (length out)) (signal_written bits na wait addr) out
