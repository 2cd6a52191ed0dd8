-- What is known of a call that a node does not refuse, both ways, and the frame as `send_on` puts it together.
use Prim.Native.Nat.{ℕ, ◌+◌, ◌-◌, ◌*◌, ◌/◌, ◌%◌, ◌^◌, ◌≤◌, ◌<◌}
use mathlib.Core.Path.{◌≡◌, ap, ap₂, sym, ◌∙◌}
use mathlib.Core.Bool.{false}
use mathlib.Core.List.{List, [], ◌∷◌, ◌++◌}
use native.Mathlib.Omega.{arith}
use lib.ListN.{length, take, drop, length-append}
use borrow.Author.Tests.{ltb-false, le-ltb}
use borrow.Rule.Slice.PartMut.{put_mid, mid_of}
use Rattle.octets.proofs.PartLaws.{grown}
use Rattle.refusals.specs.Refusals.{address_bad}
use Rattle.refusals.proofs.RefusalLaws.{or_else_zero, refuse_zero, in_range}
use Rattle.fcs.specs.Fcs.{fcs_of, fcs_octets}
use Rattle.frame.specs.Orders.{taken_refusal}
use Rattle.frame.proofs.FrameLaws.{passes}
use Rattle.onward.specs.Onward.{dropped, onward_head, onward_field, framed, onward}
use Rattle.onward.proofs.OnwardLaws.{onward_length, field_length, kept, put_behind}
use Rattle.onward.proofs.SentLaws.{answer_refused, buffer_refused, answer_done, buffer_done}
use Rattle.node.specs.Node.{forward_refusal, forward_answer, forward_buffer, Sendable}

pub record Forwarded (level wait addr : ℕ) (f : List ℕ) (room : ℕ) : Type 0 where
  pub low : level ≤ 3
  pub inside : address_bad addr ≡ false
  pub legal : taken_refusal f ≡ 0
  pub roomy : length (onward level wait addr f) ≤ room

module _ (level wait addr : ℕ) (f : List ℕ) (room : ℕ) where
  pub forwarded : forward_refusal level wait addr f room ≡ 0 → Forwarded level wait addr f room
  unfolding forward_refusal
  forwarded h =
      let p = or_else_zero _ _ h in
      let q = or_else_zero _ _ p.1 in
      let r = or_else_zero _ _ q.1 in
      record {
        low = ltb-false _ _ (refuse_zero _ 9 p.0);
        inside = refuse_zero _ 14 q.0;
        legal = r.0;
        roomy = ltb-false _ _ (refuse_zero _ 15 r.1);
      }

  pub not_refused : Forwarded level wait addr f room → forward_refusal level wait addr f room ≡ 0
  unfolding forward_refusal
  not_refused t = simp (le-ltb _ _ t.low, t.inside, t.legal, le-ltb _ _ t.roomy)

-- what the call answers and leaves, where it is refused and where its frame is written
module _ (level wait addr : ℕ) (f out : List ℕ) (r : ℕ) (e : r ≡ forward_refusal level wait addr f (length out)) where
  pub forward_refused : (r ≡ 0 → ⊥) → (record { refusal = r; length = 0 } ≡ forward_answer level wait addr f out) × (out ≡ forward_buffer level wait addr f out)
  unfolding forward_answer forward_buffer
  forward_refused h = (
    answer_refused (forward_refusal level wait addr f (length out)) r (onward level wait addr f) e h,
    buffer_refused (forward_refusal level wait addr f (length out)) r (onward level wait addr f) e h out,
  )

  pub forward_done : (w size : ℕ) (x : List ℕ) → r ≡ 0 → w ≡ wait → size ≡ length (onward level wait addr f) → x ≡ onward level w addr f ++ drop size out
      → (record { refusal = 0; length = size } ≡ forward_answer level wait addr f out) × (x ≡ forward_buffer level wait addr f out)
  unfolding forward_answer forward_buffer
  forward_done w size x z ew es ex = (
    answer_done (forward_refusal level wait addr f (length out)) r size (onward level wait addr f) e z es,
    buffer_done (forward_refusal level wait addr f (length out)) r size (onward level wait addr f) e z es out x (ex ∙ ap (λ (k : ℕ). onward level k addr f ++ drop size out) ew),
  )

pub sendable : (n level wait addr : ℕ) (f out : List ℕ) → forward_refusal level wait addr f (length out) ≡ 0 → n ≡ length (onward level wait addr f)
    → wait < 2 ^ 32 → Sendable n level wait addr f out
sendable n level wait addr f out h e w =
    let t = forwarded level wait addr f (length out) h in
    let k = kept level wait addr f (passes f t.legal) in
    let a = in_range addr t.inside in
    let l = onward_length level wait addr f in
    record { size = e; long = omega arith; within = omega arith; room = omega (arith, t.roomy); brief = w; ranged = omega arith }

-- the head, the voice field and the check, put one behind the other
module _ (n l w a : ℕ) (f O h x₁ p₂ y : List ℕ) (check : ℕ) (s : Sendable n l w a f O) where
  pub assembled : h ≡ onward_head l w a f → length h ≡ 8 → check ≡ fcs_of h → x₁ ≡ h ++ drop (length h) O
      → p₂ ≡ take (n - 2 - 8) (drop 8 f) ++ drop (length (take (n - 2 - 8) (drop 8 f))) (mid_of 8 (length x₁ - 8) x₁)
      → y ≡ take (n - 2) (put_mid 8 (length x₁ - 8) x₁ p₂) ++ (check % 256 ∷ check / 256 ∷ []) ++ drop (n - 2 + 2) (put_mid 8 (length x₁ - 8) x₁ p₂)
      → y ≡ onward l w a f ++ drop n O
  unfolding onward onward_field framed fcs_octets
  assembled e₀ l₀ ec e₁ e₂ e₃ =
      let F : List ℕ = onward_field l f in
      let many : n - 2 - 8 ≡ length f - 10 - 16 * dropped l f = omega (arith, s.size, onward_length l w a f, s.long) in
      let eF : take (n - 2 - 8) (drop 8 f) ≡ F = ap (λ (k : ℕ). take k (drop 8 f)) many in
      let lF : length F ≡ n - 2 - 8 = field_length l w a f ∙ sym many in
      let x₂ : List ℕ = put_mid 8 (length x₁ - 8) x₁ p₂ in
      let e₁' : x₁ ≡ h ++ drop 8 O = e₁ ∙ ap (λ (k : ℕ). h ++ drop k O) l₀ in
      let e₂' : p₂ ≡ F ++ drop (n - 2 - 8) (mid_of 8 (length x₁ - 8) x₁) =
      e₂ ∙ ap (λ (v : List ℕ). v ++ drop (length v) (mid_of 8 (length x₁ - 8) x₁)) eF ∙ ap (λ (k : ℕ). F ++ drop k (mid_of 8 (length x₁ - 8) x₁)) lF in
      let at : 8 + (n - 2 - 8) ≡ n - 2 = omega (arith, s.long) in
      let g₂ : x₂ ≡ (h ++ F) ++ drop (n - 2) O = grown h F O x₁ p₂ 8 (n - 2 - 8) l₀ lF e₁' e₂' ∙ ap (λ (k : ℕ). (h ++ F) ++ drop k O) at in
      let lT : length (h ++ F) ≡ n - 2 = length-append h F ∙ ap₂ (λ (j k : ℕ). j + k) l₀ lF ∙ at in
      let end : n - 2 + 2 ≡ n = omega (arith, s.long) in
      put_behind (h ++ F) O x₂ y (check % 256 ∷ check / 256 ∷ []) (n - 2) lT g₂ e₃
      ∙ ap (λ (k : ℕ). (h ++ F ++ (check % 256 ∷ check / 256 ∷ [])) ++ drop k O) end
      ∙ ap (λ (k : ℕ). (h ++ F ++ (k % 256 ∷ k / 256 ∷ [])) ++ drop n O) ec
      ∙ ap (λ (k : List ℕ). (k ++ F ++ (fcs_of k % 256 ∷ fcs_of k / 256 ∷ [])) ++ drop n O) e₀
