-- Document 01, "Origin and node" and "Order": the voice frame that the origin sends, by the node's own step.
use Rattle.std.specs.Prelude.{ℕ, ◌+◌, ◌*◌, ◌/◌, ◌%◌, List, [], ◌∷◌, length}
use Rattle.refusals.specs.Refusals.{◌or_else◌, if_taken, refusal10, refusal12, refusal15, refusal16}
use Rattle.coding.specs.Coding.{sample_bits, droppable_bits, refusal6}
use Rattle.blocks.specs.Blocks.{field, refusal11}
use Rattle.onward.specs.Onward.{framed, onward}
use Rattle.onward.specs.Sent.{Sent, sent_answer, sent_buffer}
use Rattle.origin.specs.Burst.{refusal13, refusal14, sequence_sent, more_sent, sseq_set}
use Rattle.origin.specs.declared.Step.{Step}

-- octets 1 to 8 as they are made: M and C are D, the stamp is 0
unfoldable pub made_head : ℕ → ℕ → ℕ → ℕ → ℕ → List ℕ
made_head addr coding more sequence noise =
    addr / 128 * 4
    ∷ (addr % 128 * 2 + 1)
    ∷ 239
    ∷ 68
    ∷ (droppable_bits coding * 16 + droppable_bits coding)
    ∷ 0
    ∷ (more * 128 + coding)
    ∷ (sequence * 16 + noise)
    ∷ []

-- the frame as it is made: all the blocks of the samples
unfoldable pub made : ℕ → ℕ → ℕ → ℕ → ℕ → List ℕ → List ℕ
made addr coding more sequence noise samples =
    framed (made_head addr coding more sequence noise) (field samples (sample_bits coding) (sample_bits coding))

-- the frame sent: the origin drops and stamps as a node does
unfoldable pub send_written : ℕ → Step → ℕ → ℕ → List ℕ → ℕ → ℕ → ℕ → List ℕ
send_written sseq step coding noise samples level wait addr =
    onward level wait addr (made addr coding (more_sent step) (sequence_sent step sseq) noise samples)

-- 14, 13, 6, 12, 11, 10, 15, 16
unfoldable pub send_refusal : ℕ → Step → ℕ → ℕ → List ℕ → ℕ → ℕ → ℕ → ℕ → ℕ
send_refusal sseq step coding noise samples level wait addr room =
    refusal14 sseq or_else refusal13 step sseq or_else refusal6 coding or_else refusal12 noise 0
    or_else refusal11 samples (sample_bits coding) or_else refusal10 level or_else refusal15 addr
    or_else refusal16 room (length (send_written sseq step coding noise samples level wait addr))

unfoldable pub send_answer : ℕ → Step → ℕ → ℕ → List ℕ → ℕ → ℕ → ℕ → List ℕ → Sent
send_answer sseq step coding noise samples level wait addr out =
    sent_answer (send_refusal sseq step coding noise samples level wait addr (length out)) (send_written sseq step coding noise samples level wait addr)

unfoldable pub send_buffer : ℕ → Step → ℕ → ℕ → List ℕ → ℕ → ℕ → ℕ → List ℕ → List ℕ
send_buffer sseq step coding noise samples level wait addr out =
    sent_buffer (send_refusal sseq step coding noise samples level wait addr (length out)) (send_written sseq step coding noise samples level wait addr) out

-- SSEQ after the call: a refused one leaves it
unfoldable pub send_sseq : ℕ → Step → ℕ → ℕ → List ℕ → ℕ → ℕ → ℕ → ℕ → ℕ
send_sseq sseq step coding noise samples level wait addr room =
    if_taken (send_refusal sseq step coding noise samples level wait addr room) (sseq_set step sseq) sseq
