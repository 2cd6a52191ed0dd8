-- An array that `array::from_fn` makes, where each call leaves the closure as it was.
use Prim.Native.Nat.{ℕ, zero, suc, ◌+◌, ◌<◌}
use mathlib.Core.Path.{◌≡◌, sym, ap, subst, ◌∙◌}
use mathlib.Core.List.{List}
use native.Mathlib.Omega.{arith}
use lib.ListN.{get_or}
use lib.Seq.{ext_get_or}
use denote.Param.Members.{Mut, Called}
use Rattle.std.specs.Array.{IsFromFnResultFrom, IsFromFnResult}
use Rattle.octets.specs.Octets.{tab}
use Rattle.octets.proofs.TabLaws.{length_tab, get_or_tab}

module _ {F : Type 0} {g : Mut F (ℕ × Unit {0}) ℕ} {f : F} (v : ℕ → ℕ) (calls : (i y : ℕ) (q : F) → Called g f (i, tt) y q → (y ≡ v i) × (q ≡ f)) where
  made_at : (ys : List ℕ) (n i k m : ℕ) → IsFromFnResultFrom g f ys i n → k < n → i + k ≡ m → get_or ys m 0 ≡ v m
  made_at ys zero i k m p h e = absurd (omega arith)
  made_at ys (suc n) i zero m p h e =
      let here : i ≡ m = omega arith in
      ap (λ x. get_or ys x 0) (sym here) ∙ p.2.1 0 ∙ (calls i p.1 p.0 p.3).0 ∙ ap v here
  made_at ys (suc n) i (suc k) m p h e =
      made_at ys n (i + 1) k m (subst (λ q. IsFromFnResultFrom g q ys (i + 1) n) (calls i p.1 p.0 p.3).1 p.4) (omega arith) (omega arith)

  pub made_tab : (ys : List ℕ) (n : ℕ) → IsFromFnResult g f ys n → ys ≡ tab v n
  made_tab ys n p =
      ext_get_or 0 ys (tab v n) (p.long ∙ sym (length_tab v n))
      (λ i h. made_at ys n 0 i i p.each (omega (arith, p.long)) (omega arith) ∙ sym (get_or_tab v n i 0 (omega (arith, p.long))))
