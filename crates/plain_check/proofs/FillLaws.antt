-- A list that is filled place by place from its front with f 0, f 1, ..
use Prim.Native.Nat.{ℕ, ◌+◌, ◌<◌}
use mathlib.Core.Path.{◌≡◌, refl, ap, ap₂, ◌∙◌}
use mathlib.Core.List.{List, ◌++◌, append-nil}
use native.Mathlib.Numerals.{add-one}
use native.Mathlib.Omega.{arith}
use lib.ListN.{length, drop, set, length-set, drop_of_length-le}
use Rattle.octets.specs.Octets.{tab}
use Rattle.octets.proofs.TabLaws.{tab_more}

-- the first i places of what was `before`, and the rest as it came
pub record Filled (f : ℕ → ℕ) (before : List ℕ) (i : ℕ) (l : List ℕ) : Type 0 where
  pub long : length l ≡ length before
  pub so_far : l ≡ tab f i ++ drop i before

pub begun : (f : ℕ → ℕ) (l : List ℕ) → Filled f l 0 l
unfolding tab
begun f l = record { long = refl; so_far = refl }

pub one_more : (f : ℕ → ℕ) (before : List ℕ) (i : ℕ) (l : List ℕ) (v : ℕ) → Filled f before i l → v ≡ f i → i < length before
    → Filled f before (i + 1) (set l i v)
one_more f before i l v p e h = record {
  long = length-set l i v ∙ p.long;
  so_far = ap₂ (λ (x : List ℕ) (y : ℕ). set x i y) p.so_far e ∙ rw (add-one i) (tab_more f before i h);
}

pub at_end : (f : ℕ → ℕ) (before : List ℕ) (i n : ℕ) (l : List ℕ) → Filled f before i l → i ≡ n → l ≡ tab f n ++ drop n before
at_end f before i n l p e = p.so_far ∙ ap (λ (k : ℕ). tab f k ++ drop k before) e

pub all_filled : (f : ℕ → ℕ) (before : List ℕ) (i n : ℕ) (l : List ℕ) → Filled f before i l → i ≡ n → length before ≡ n → l ≡ tab f n
all_filled f before i n l p e s =
    at_end f before i n l p e
    ∙ ap (λ (r : List ℕ). tab f n ++ r) (drop_of_length-le before {i = n} (omega arith))
    ∙ append-nil (tab f n)
