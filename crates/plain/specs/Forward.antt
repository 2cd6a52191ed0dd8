-- G.764, section 5.2, and document 01, "Origin and node" and "Order": what a node refuses, answers and leaves in its buffer, by the passes.
use Rattle.std.specs.Prelude.{ℕ, cond, List, ltb, length}
use Rattle.refusals.specs.Refusals.{◌or_else◌, address_bad}
use Rattle.onward.specs.Sent.{Sent, sent_answer, sent_buffer}
use Rattle.plain_order.specs.Order.{taken_order}
use Rattle.plain_passes.specs.Passes.{drop_pass, passed}

-- level above 3; outgoing address outside range; what is wrong with the frame; output buffer shorter than the frame to be written
unfoldable pub forward_order : ℕ → ℕ → List ℕ → ℕ → ℕ
forward_order level addr f room =
    cond (ltb 3 level) 10
    (cond (address_bad addr) 15
    (taken_order f or_else
    cond (ltb room (length (drop_pass level f))) 16 0))

unfoldable pub plain_forward_answer : ℕ → ℕ → ℕ → List ℕ → List ℕ → Sent
plain_forward_answer level wait addr f out = sent_answer (forward_order level addr f (length out)) (passed level wait addr f)

unfoldable pub plain_forward_buffer : ℕ → ℕ → ℕ → List ℕ → List ℕ → List ℕ
plain_forward_buffer level wait addr f out = sent_buffer (forward_order level addr f (length out)) (passed level wait addr f) out
