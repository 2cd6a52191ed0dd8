-- A node ignores reserved bits, and of signalling the more bit and the sequence, and passes them on as they came: a frame and the same frame with those bits changed and its check
-- made afresh are refused and answered alike, and what is sent on of the one is what is sent on of the other, with those bits and its check made afresh.
use Prim.Native.Nat.{ℕ, zero, suc, ◌≤◌}
use mathlib.Core.Path.{◌≡◌, refl, ap, ap₂, ◌∙◌}
use mathlib.Core.List.{List}
use lib.ListN.{length}
use Rattle.refusals.specs.Refusals.{◌or_else◌, refusal10, refusal15, refusal16}
use Rattle.frame.specs.Orders.{link_refusal}
use Rattle.frame.specs.Ignored.{with_ignored}
use Rattle.frame.proofs.FrameLaws.{passes}
use Rattle.frame.proofs.IgnoredLaws.{same_taken_refusal}
use Rattle.onward.specs.Onward.{onward}
use Rattle.onward.specs.Sent.{sent_answer, sent_buffer}
use Rattle.onward.proofs.IgnoredLaws.{same_onward_length, onward_ignores}
use Rattle.node.specs.Node.{forward_refusal, forward_answer, forward_buffer}
use Rattle.node.proofs.ForwardLaws.{forwarded}

module _ (g f : List ℕ) (long : 10 ≤ length f) (summed : link_refusal f ≡ 4 → ⊥) (level wait addr : ℕ) where
  pub forward_refusal_ignores : (room : ℕ) → forward_refusal level wait addr (with_ignored g f) room ≡ forward_refusal level wait addr f room
  unfolding forward_refusal
  forward_refusal_ignores room =
      ap₂ (λ (r n : ℕ). refusal10 level or_else refusal15 addr or_else r or_else refusal16 room n)
      (same_taken_refusal g f long summed) (same_onward_length g f level wait addr long)

  pub forward_answer_ignores : (out : List ℕ) → forward_answer level wait addr (with_ignored g f) out ≡ forward_answer level wait addr f out
  unfolding forward_answer sent_answer
  forward_answer_ignores out = rw (forward_refusal_ignores (length out), same_onward_length g f level wait addr long)

  -- the frame sent on with those bits, and the rest of the buffer as it came; or, refused, all of it as it came
  pub forward_buffer_ignores : (out : List ℕ)
      → forward_buffer level wait addr (with_ignored g f) out ≡ sent_buffer (forward_refusal level wait addr f (length out)) (with_ignored g (onward level wait addr f)) out
  unfolding forward_buffer sent_buffer
  forward_buffer_ignores out =
      ap (λ (r : ℕ). sent_buffer r (onward level wait addr (with_ignored g f)) out) (forward_refusal_ignores (length out))
      ∙ go (forward_refusal level wait addr f (length out)) refl
    where
      go : (r : ℕ) → forward_refusal level wait addr f (length out) ≡ r
          → sent_buffer r (onward level wait addr (with_ignored g f)) out ≡ sent_buffer r (with_ignored g (onward level wait addr f)) out
      go zero z = ap (λ (s : List ℕ). sent_buffer 0 s out) (onward_ignores g f level wait addr (passes f (forwarded level wait addr f (length out) z).legal))
      go (suc r) z = refl
