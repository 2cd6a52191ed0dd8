-- What a call that writes a frame answers and leaves.
use Rattle.std.specs.Prelude.{Result}
use Rattle.std.proofs.Common.{◌≡◌, ℕ, zero, suc, List, ◌++◌, length, take, drop, refl, ap, ◌∙◌, take_at}
use Rattle.refusals.specs.declared.Refusal.{Refusal}
use Rattle.refusals.proofs.RefusalLaws.{refused_is, done_is, result_one}
use Rattle.onward.specs.Sent.{Sent, sent_answer, sent_buffer, sent_paper}

-- the number that it answers is its refusal
pub answered : (refusal : ℕ) (written : List ℕ) → (sent_answer refusal written).refusal ≡ refusal
unfolding sent_answer
answered zero written = refl
answered (suc r) written = refl

-- as many octets of the buffer as it answers are the frame written
pub whole_output : (refusal : ℕ) (written out : List ℕ) → refusal ≡ 0
    → take (sent_answer refusal written).length (sent_buffer refusal written out) ≡ written
unfolding sent_answer sent_buffer
whole_output refusal written out e = rw e (take_at written (drop (length written) out) (length written) refl)

-- what a call answers and leaves where it is refused
module _ (q r : ℕ) (f : List ℕ) (e : r ≡ q) (h : r ≡ 0 → ⊥) where
  pub answer_refused : record { refusal = r; length = 0 } ≡ sent_answer q f
  unfolding sent_answer
  answer_refused = refused_is q r _ _ _ e h (ap (λ (k : ℕ). record { refusal = k; length = 0 }) e)

  pub buffer_refused : (out : List ℕ) → out ≡ sent_buffer q f out
  unfolding sent_buffer
  buffer_refused out = refused_is q r _ _ _ e h refl

-- and once its frame is written
module _ (q r n : ℕ) (f : List ℕ) (e : r ≡ q) (z : r ≡ 0) (en : n ≡ length f) where
  pub answer_done : record { refusal = 0; length = n } ≡ sent_answer q f
  unfolding sent_answer
  answer_done = done_is q r _ _ _ e z (ap (λ (k : ℕ). record { refusal = 0; length = k }) en)

  pub buffer_done : (out x : List ℕ) → x ≡ f ++ drop n out → x ≡ sent_buffer q f out
  unfolding sent_buffer
  buffer_done out x ex = done_is q r _ _ _ e z (ex ∙ ap (λ (k : ℕ). f ++ drop k out) en)

-- only one result has the number and the length of an answer
pub sent_one : (x y : Result ℕ Refusal) → sent_paper x ≡ sent_paper y → x ≡ y
unfolding sent_paper
sent_one x y e = result_one sent_paper (λ (a : Sent). a.refusal) (λ (a : Sent). a.length) (λ a. refl) (λ a. refl) (λ a. refl) x y e
