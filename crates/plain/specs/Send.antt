-- G.764, section 5.1, and document 01, "Origin and node" and "Order": what the origin answers and leaves; the frame that it makes goes through the node's passes.
use Rattle.std.specs.Prelude.{ℕ, List, length}
use Rattle.refusals.specs.Refusals.{if_taken}
use Rattle.onward.specs.Sent.{Sent, sent_answer, sent_buffer}
use Rattle.origin.specs.Burst.{sequence_sent, more_sent, sseq_set}
use Rattle.origin.specs.declared.Step.{Step}
use Rattle.plain_packet.specs.Packet.{plain_made, send_order}
use Rattle.plain_passes.specs.Passes.{passed}

-- the frame sent
unfoldable pub plain_sent : ℕ → Step → ℕ → ℕ → List ℕ → ℕ → ℕ → ℕ → List ℕ
plain_sent sseq step coding noise samples level wait addr =
    passed level wait addr (plain_made coding (more_sent step) (sequence_sent step sseq) noise samples)

unfoldable pub plain_send_answer : ℕ → Step → ℕ → ℕ → List ℕ → ℕ → ℕ → ℕ → List ℕ → Sent
plain_send_answer sseq step coding noise samples level wait addr out =
    sent_answer (send_order sseq step coding noise samples level addr (length out)) (plain_sent sseq step coding noise samples level wait addr)

unfoldable pub plain_send_buffer : ℕ → Step → ℕ → ℕ → List ℕ → ℕ → ℕ → ℕ → List ℕ → List ℕ
plain_send_buffer sseq step coding noise samples level wait addr out =
    sent_buffer (send_order sseq step coding noise samples level addr (length out)) (plain_sent sseq step coding noise samples level wait addr) out

-- SSEQ after the call: a refused one leaves it
unfoldable pub plain_send_sseq : ℕ → Step → ℕ → ℕ → List ℕ → ℕ → ℕ → ℕ → ℕ
plain_send_sseq sseq step coding noise samples level addr room =
    if_taken (send_order sseq step coding noise samples level addr room) (sseq_set step sseq) sseq
