-- Our own frames never set C/R or poll bit: what a writer leaves in its buffer, as far as the length that it answers, passes 24, whatever it is given.
use Prim.Native.Nat.{ℕ, zero, suc, ◌+◌, ◌*◌, ◌/◌, ◌%◌}
use mathlib.Core.Path.{◌≡◌, refl, ap, ◌∙◌}
use mathlib.Core.List.{List, []}
use native.Mathlib.Omega.{arith}
use lib.ListN.{length, take, drop}
use lib.Seq.{take_at}
use Rattle.octets.specs.Octets.{octet}
use Rattle.frame.specs.Fields.{command_bit, poll_bit}
use Rattle.frame.specs.Orders.{refusal24}
use Rattle.onward.specs.Onward.{onward_head, framed, onward}
use Rattle.onward.specs.Sent.{sent_answer, sent_buffer}
use Rattle.origin.specs.Burst.{more_sent, sequence_sent}
use Rattle.origin.specs.Send.{made_head, made, send_written, send_refusal, send_answer, send_buffer}
use Rattle.origin.specs.Signal.{signal_head, signal_written, signal_refusal, signal_answer, signal_buffer}
use Rattle.origin.specs.declared.Step.{Step}

-- a frame made with both bits 0 is sent with both 0
sent_clear : (level wait addr : ℕ) (f : List ℕ) → command_bit f ≡ 0 → poll_bit f ≡ 0 → refusal24 (onward level wait addr f) ≡ 0
unfolding onward onward_head framed
sent_clear level wait addr f h z =
    let first : (addr / 128 * 4 + octet 1 f % 4) / 2 % 2 ≡ 0 = omega arith in
    rw (first, z)

-- so it stands in the buffer; a refused call answers no length
left_clear : (refusal : ℕ) (written out : List ℕ) → refusal24 written ≡ 0
    → refusal24 (take (sent_answer refusal written).length (sent_buffer refusal written out)) ≡ 0
unfolding sent_answer sent_buffer
left_clear zero written out h = ap refusal24 (take_at written (drop (length written) out) (length written) refl) ∙ h
left_clear (suc r) written out h = refl

pub send_clear : (sseq : ℕ) (step : Step) (t n : ℕ) (samples : List ℕ) (level wait addr : ℕ) (out : List ℕ)
    → refusal24 (take (send_answer sseq step t n samples level wait addr out).length (send_buffer sseq step t n samples level wait addr out)) ≡ 0
unfolding send_answer send_buffer send_written made made_head framed
send_clear sseq step t n samples level wait addr out =
    left_clear (send_refusal sseq step t n samples level wait addr (length out)) (send_written sseq step t n samples level wait addr) out
    (sent_clear level wait addr (made addr t (more_sent step) (sequence_sent step sseq) n samples) (omega arith) refl)

pub signal_clear : (bits na wait addr : ℕ) (out : List ℕ)
    → refusal24 (take (signal_answer bits na wait addr out).length (signal_buffer bits na wait addr out)) ≡ 0
unfolding signal_answer signal_buffer signal_written signal_head framed
signal_clear bits na wait addr out =
    left_clear (signal_refusal bits na wait addr (length out)) (signal_written bits na wait addr) out
    (sent_clear 0 wait addr (framed (signal_head addr na bits) []) (omega arith) refl)
