-- A lent list that is being filled from its front.
use Prim.Native.Nat.{ℕ, ◌+◌, ◌-◌, ◌≤◌, ◌<◌}
use mathlib.Core.Path.{◌≡◌, refl, sym, ap, ap₂, ◌∙◌}
use mathlib.Core.List.{List, [], ◌∷◌, ◌++◌, append_assoc, append-nil}
use native.Mathlib.Numerals.{add-one}
use native.Mathlib.Omega.{arith}
use lib.ListN.{length, take, drop, set, length-append, length-set, length-drop, take-append-drop}
use lib.Seq.{length-take-le, take_at, drop_at, drop-drop, take-suc-set, drop-set-lt, append_snoc}
use borrow.Rule.Slice.PartMut.{mid_of, put_mid}
use Rattle.octets.proofs.PartLaws.{grown}

-- x was `old`; its first w and `more` are `all`
pub record Filling (w : ℕ) (x old more all : List ℕ) : Type 0 where
  pub room : w ≤ length old
  pub same : length x ≡ length old
  pub front : take w x ++ more ≡ all
  pub behind : drop w x ≡ drop w old

pub fill_start : (old all : List ℕ) → Filling 0 old old all all
fill_start old all = record { room = omega arith; same = refl; front = refl; behind = refl }

module _ (w : ℕ) (x old all : List ℕ) where
  pub fill_over : Filling w x old [] all → (w ≡ length all) × (x ≡ all ++ drop (length all) old)
  fill_over f =
      let e : take w x ≡ all = sym (append-nil (take w x)) ∙ f.front in
      let l : w ≡ length all = sym (length-take-le w x (omega (arith, f.room, f.same))) ∙ ap length e in
      (l, sym (take-append-drop w x) ∙ ap₂ (λ (a b : List ℕ). a ++ b) e f.behind ∙ ap (λ (k : ℕ). all ++ drop k old) l)

  -- its part from w on is lent, and comes back with s, k octets, at its front
  pub fill_part : (s more p : List ℕ) (k : ℕ) → Filling w x old (s ++ more) all → k ≡ length s → w + k ≤ length old
      → p ≡ s ++ drop k (mid_of w (length x - w) x) → Filling (w + k) (put_mid w (length x - w) x p) old more all
  fill_part s more p k f ek fits ep =
      let t : length (take w x) ≡ w = length-take-le w x (omega (arith, f.room, f.same)) in
      let g = grown (take w x) s old x p w k t (sym ek) (sym (take-append-drop w x) ∙ ap (λ (l : List ℕ). take w x ++ l) f.behind) ep in
      let n : length (take w x ++ s) ≡ w + k = length-append (take w x) s ∙ ap₂ (λ (a b : ℕ). a + b) t (sym ek) in
      record {
        room = fits;
        same = ap length g ∙ length-append (take w x ++ s) (drop (w + k) old) ∙ omega (arith, n, length-drop (w + k) old, fits);
        front =
            ap (λ (l : List ℕ). take (w + k) l ++ more) g ∙ ap (λ (l : List ℕ). l ++ more) (take_at (take w x ++ s) (drop (w + k) old) (w + k) n)
            ∙ append_assoc (take w x) s more ∙ f.front;
        behind = ap (drop (w + k)) g ∙ drop_at (take w x ++ s) (drop (w + k) old) (w + k) n;
      }

  -- one is set
  pub fill_set : (v : ℕ) (more : List ℕ) → Filling w x old (v ∷ more) all → w < length old → Filling (w + 1) (set x w v) old more all
  fill_set v more f h =
      let first : take (w + 1) (set x w v) ≡ take w x ++ (v ∷ []) =
      ap (λ (k : ℕ). take k (set x w v)) (add-one w) ∙ take-suc-set x w v (omega (arith, f.same)) in
      let later : (l : List ℕ) → drop (w + 1) l ≡ drop 1 (drop w l) = λ l. sym (drop-drop 1 w l) in
      record {
        room = omega arith;
        same = length-set x w v ∙ f.same;
        front = ap (λ (l : List ℕ). l ++ more) first ∙ append_snoc (take w x) v more ∙ f.front;
        behind = drop-set-lt (w + 1) x w v (omega arith) ∙ later x ∙ ap (drop 1) f.behind ∙ sym (later old);
      }
