-- 32 slots as a ring: how many are in use, one more, and the first of them.
use Prim.Native.Nat.{ℕ, suc, zero, ◌+◌, ◌-◌, ◌≤◌, ◌<◌}
use mathlib.Core.Path.{◌≡◌, sym, ap, ap₂, ◌∙◌}
use mathlib.Core.List.{List, [], ◌∷◌, ◌++◌}
use native.Mathlib.Omega.{arith}
use lib.ListN.{length, take, drop, set, get_or, length-append, length-drop}
use lib.Seq.{take_at, drop-cons, take-append-le, length-take-le}
use Rattle.ring.specs.Ring.{place_after, turned}
use Rattle.ring.proofs.RingLaws.{turned_length, turned_after, place_below, laid_after, set_laid}

-- 32 slots, of which `count` are in use from `first` on
module _ (xs : List ℕ) (first count : ℕ) (all : length xs ≡ 32) (slot : first < 32) where
  pub used_count : count ≤ 32 → length (take count (turned first xs)) ≡ count
  used_count h = length-take-le count (turned first xs) (omega (arith, turned_length first xs))

  -- one more
  pub used_more : (v : ℕ) → count < 32 → take (count + 1) (turned first (set xs (place_after first count 32) v)) ≡ take count (turned first xs) ++ v ∷ []
  used_more v h =
      let R : List ℕ = turned first xs in
      let p : place_after first count 32 ≡ place_after first count (length xs) = ap (place_after first count) (sym all) in
      let b : place_after first count 32 < length xs = rw all (place_below first count 32 slot (omega arith)) in
      let seen : turned first (set xs (place_after first count 32) v) ≡ take count R ++ v ∷ [] ++ drop (count + 1) R =
      ap (turned first) (set_laid (place_after first count 32) v xs b) ∙ rw p (laid_after first count (v ∷ []) xs (omega arith) (omega arith)) in
      let l : length (take count R ++ v ∷ []) ≡ count + 1 = length-append (take count R) (v ∷ []) ∙ ap (λ (k : ℕ). k + 1) (used_count (omega arith)) in
      ap (take (count + 1)) seen ∙ take_at (take count R ++ v ∷ []) (drop (count + 1) R) (count + 1) l

  first_then : turned first xs ≡ get_or xs first 0 ∷ (drop (suc first) xs ++ take first xs)
  unfolding turned
  first_then = ap (λ (x : List ℕ). x ++ take first xs) (drop-cons xs first 0 (omega arith))

  turned_on : turned (place_after first 1 32) xs ≡ (drop (suc first) xs ++ take first xs) ++ get_or xs first 0 ∷ []
  unfolding turned
  turned_on = ap (λ (n : ℕ). turned (place_after first 1 n) xs) (sym all) ∙ turned_after first 1 xs (omega arith) (omega arith) ∙ ap (turned 1) first_then

  -- the first, and the others
  pub used_first : 0 < count → count ≤ 32 → take count (turned first xs) ≡ get_or xs first 0 ∷ take (count - 1) (turned (place_after first 1 32) xs)
  used_first some few = go count some few where
    go : (c : ℕ) → 0 < c → c ≤ 32 → take c (turned first xs) ≡ get_or xs first 0 ∷ take (c - 1) (turned (place_after first 1 32) xs)
    go zero h l = absurd (omega arith)
    go (suc c) h l =
        let n : suc c - 1 ≡ c = omega arith in
        let w : c ≤ length (drop (suc first) xs ++ take first xs) = omega (arith, length-append (drop (suc first) xs) (take first xs), length-drop (suc first) xs, length-take-le first xs (omega arith)) in
        ap (take (suc c)) first_then
        ∙ ap (λ (x : List ℕ). get_or xs first 0 ∷ x) (sym (ap₂ take n turned_on ∙ take-append-le c (drop (suc first) xs ++ take first xs) (get_or xs first 0 ∷ []) w))
