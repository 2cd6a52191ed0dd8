-- What a level gives back of a frame is what the node's own step makes it shorter by.
use Prim.Native.Nat.{ℕ, ◌+◌, ◌*◌, ◌≤◌}
use mathlib.Core.Path.{◌≡◌, refl, sym, ◌∙◌}
use mathlib.Core.Bool.{false}
use mathlib.Core.List.{List}
use native.Mathlib.Omega.{arith}
use lib.ListN.{length}
use Rattle.refusals.specs.Refusals.{address_bad}
use Rattle.frame.specs.Fields.{field_m, field_c}
use Rattle.frame.specs.Orders.{taken_refusal}
use Rattle.frame.proofs.FrameLaws.{Passes, passes, taken_short, by_kind}
use Rattle.onward.specs.Onward.{dropped, onward}
use Rattle.onward.proofs.OnwardLaws.{onward_length, kept}
use Rattle.onward.proofs.SentLaws.{answer_done}
use Rattle.node.specs.Node.{forward_refusal, forward_answer}
use Rattle.node.proofs.ForwardLaws.{not_refused}
use Rattle.totals.specs.Totals.{gives}

-- signalling has no C to drop from
gives_dropped : (level : ℕ) (f : List ℕ) → Passes f → gives level f ≡ 16 * dropped level f
unfolding gives dropped
gives_dropped level f p =
    by_kind f (λ v. rw v refl)
    (λ s. let m : field_m f ≡ 0 = p.laid.m_is_d ∙ rw s refl in
    let c : field_c f ≡ 0 = omega (arith, p.laid.c_le_m) in
    rw (s, c) (omega arith))

-- as long as the frame sent on and what was given back
pub shrinks : (level wait addr : ℕ) (f : List ℕ) → taken_refusal f ≡ 0 → length (onward level wait addr f) + gives level f ≡ length f
shrinks level wait addr f z =
    let p = passes f z in
    rw (gives_dropped level f p) (omega (arith, onward_length level wait addr f, kept level wait addr f p))

-- a node takes it where level and address are in range and there is room for any frame, and answers that length
pub node_answers : (level wait addr : ℕ) (f out : List ℕ) → taken_refusal f ≡ 0 → level ≤ 3 → address_bad addr ≡ false → 138 ≤ length out
    → forward_answer level wait addr f out ≡ record { refusal = 0; length = length (onward level wait addr f) }
unfolding forward_answer
node_answers level wait addr f out z low inside room =
    let taken : forward_refusal level wait addr f (length out) ≡ 0 =
    not_refused level wait addr f (length out) (record { low = low; inside = inside; legal = z; roomy = omega (arith, shrinks level wait addr f z, taken_short f z) }) in
    sym (answer_done (forward_refusal level wait addr f (length out)) 0 (length (onward level wait addr f)) (onward level wait addr f) (sym taken) refl refl)
