-- The slots in use, added one by one: those before the first are in use where the ring goes round, the others as far as the count goes.
use Prim.Native.Nat.{ℕ, suc, ◌+◌, ◌-◌, ◌*◌, ◌%◌, ◌≤◌, ◌<◌, min}
use mathlib.Core.Path.{◌≡◌, refl, sym, ap, ◌∙◌}
use mathlib.Core.Bool.{Bool, true, false, cond}
use mathlib.Core.List.{List, [], ◌∷◌, ◌++◌}
use native.Mathlib.Nat.{mod-eq_of_lt}
use native.Mathlib.Numerals.{add-one}
use native.Mathlib.Omega.{arith}
use lib.Dec.{ltb}
use lib.ListN.{length, take, drop, get_or, length-drop, take-append-drop}
use lib.Seq.{take-suc, take_all, get_or-drop, take-append-le, take-append-add, take-take}
use borrow.Author.Tests.{ltb-true, ltb-false, lt-ltb, le-ltb}
use Rattle.std.specs.Int.{from_bool}
use Rattle.ring.specs.Ring.{turned, sum}

pub sum_append : (xs ys : List ℕ) → sum (xs ++ ys) ≡ sum xs + sum ys
unfolding sum
sum_append [] ys = omega arith
sum_append (x ∷ xs) ys = omega (arith, sum_append xs ys)

-- octets, and so those of them that are in use, wherever the ring begins
pub sum_most : (xs : List ℕ) → ((i : ℕ) → get_or xs i 0 < 256) → sum xs ≤ 255 * length xs
unfolding sum
sum_most [] h = omega arith
sum_most (x ∷ xs) h = let l : x < 256 = h 0 in omega (arith, sum_most xs (λ i. h (suc i)))

pub used_most : (first count : ℕ) (xs : List ℕ) → ((i : ℕ) → get_or xs i 0 < 256) → sum (take count (turned first xs)) ≤ 255 * length xs
unfolding turned
used_most first count xs h =
    let parts : (n : ℕ) (ys : List ℕ) → sum (take n ys) + sum (drop n ys) ≡ sum ys = λ n ys. sym (sum_append (take n ys) (drop n ys)) ∙ ap sum (take-append-drop n ys) in
    omega (arith, sum_most xs h, parts first xs, sum_append (drop first xs) (take first xs), parts count (drop first xs ++ take first xs))

-- of the first m of a list, those before i
unfoldable pub up_to : ℕ → ℕ → List ℕ → ℕ
up_to m i ls = sum (take (min i m) ls)

-- what is added at i
step : (m i : ℕ) (ls : List ℕ) → i < length ls → up_to m i ls + get_or ls i 0 * cond (ltb i m) 1 0 ≡ up_to m (suc i) ls
unfolding up_to sum
step m i ls h = go (ltb i m) refl where
  go : (b : Bool) → ltb i m ≡ b → sum (take (min i m) ls) + get_or ls i 0 * cond b 1 0 ≡ sum (take (min (suc i) m) ls)
  go true e =
      let l : i < m = ltb-true _ _ e in
      let p : min i m ≡ i = omega arith in
      let q : min (suc i) m ≡ suc i = omega arith in
      rw (p, q, take-suc ls i 0 h, sum_append (take i ls) (get_or ls i 0 ∷ [])) (omega arith)
  go false e =
      let l : m ≤ i = ltb-false _ _ e in
      let p : min i m ≡ m = omega arith in
      let q : min (suc i) m ≡ m = omega arith in
      rw (p, q) (omega arith)

-- past them nothing is added
still : (m i j : ℕ) (ls : List ℕ) → min i m ≡ min j m → up_to m i ls ≡ up_to m j ls
unfolding up_to
still m i j ls e = ap (λ (k : ℕ). sum (take k ls)) e

same_test : (a b c d : ℕ) → (a < b → c < d) → (b ≤ a → d ≤ c) → ltb a b ≡ ltb c d
same_test a b c d p q = go (ltb a b) refl where
  go : (t : Bool) → ltb a b ≡ t → t ≡ ltb c d
  go true e = sym (lt-ltb c d (p (ltb-true _ _ e)))
  go false e = sym (le-ltb c d (q (ltb-false _ _ e)))

-- what is added once the slots before i have been looked at
unfoldable pub added_to : ℕ → ℕ → List ℕ → ℕ → ℕ
added_to first count ls i = up_to count (i - first) (drop first ls) + up_to (first + count - 32) i ls

module _ (first count : ℕ) (ls : List ℕ) (all : length ls ≡ 32) (slot : first < 32) (few : count ≤ 32) where
  pub added_none : added_to first count ls 0 ≡ 0
  unfolding added_to up_to sum
  added_none =
      let p : min (0 - first) count ≡ 0 = omega arith in
      let q : min 0 (first + count - 32) ≡ 0 = omega arith in
      rw (p, q) refl

  pub added_more : (i : ℕ) → i < 32 → added_to first count ls i + get_or ls i 0 * cond (ltb ((i + 32 - first) % 32) count) 1 0 ≡ added_to first count ls (i + 1)
  unfolding added_to
  added_more i h = go (ltb i first) refl where
    go : (b : Bool) → ltb i first ≡ b
        → up_to count (i - first) (drop first ls) + up_to (first + count - 32) i ls + get_or ls i 0 * cond (ltb ((i + 32 - first) % 32) count) 1 0
        ≡ up_to count (i + 1 - first) (drop first ls) + up_to (first + count - 32) (i + 1) ls
    go true e =
        let l : i < first = ltb-true _ _ e in
        let m : (i + 32 - first) % 32 ≡ i + 32 - first = mod-eq_of_lt (omega arith) in
        let t : ltb ((i + 32 - first) % 32) count ≡ ltb i (first + count - 32) = same_test ((i + 32 - first) % 32) count i (first + count - 32) (λ (p : (i + 32 - first) % 32 < count). omega arith) (λ (p : count ≤ (i + 32 - first) % 32). omega arith) in
        let a : up_to count (i - first) (drop first ls) ≡ up_to count (i + 1 - first) (drop first ls) = still count (i - first) (i + 1 - first) (drop first ls) (omega arith) in
        let b : up_to (first + count - 32) i ls + get_or ls i 0 * cond (ltb i (first + count - 32)) 1 0 ≡ up_to (first + count - 32) (i + 1) ls = rw add-one (step (first + count - 32) i ls (omega arith)) in
        rw t (omega arith)
    go false e =
        let l : first ≤ i = ltb-false _ _ e in
        let m : (i + 32 - first) % 32 ≡ i - first = omega arith in
        let n : i + 1 - first ≡ suc (i - first) = omega arith in
        let g : get_or (drop first ls) (i - first) 0 ≡ get_or ls i 0 = get_or-drop first ls (i - first) 0 ∙ ap (λ (k : ℕ). get_or ls k 0) (omega arith) in
        let a : up_to (first + count - 32) i ls ≡ up_to (first + count - 32) (i + 1) ls = still (first + count - 32) i (i + 1) ls (omega arith) in
        let b : up_to count (i - first) (drop first ls) + get_or ls i 0 * cond (ltb (i - first) count) 1 0 ≡ up_to count (suc (i - first)) (drop first ls) =
        rw g at (step count (i - first) (drop first ls) (omega (arith, length-drop first ls))) in
        rw (m, n) (omega arith)

  pub added_all : added_to first count ls 32 ≡ sum (take count (turned first ls))
  unfolding added_to up_to turned sum
  added_all = go (ltb (32 - first) count) refl where
    ld : length (drop first ls) ≡ 32 - first
    ld = length-drop first ls ∙ ap (λ (k : ℕ). k - first) all

    go : (b : Bool) → ltb (32 - first) count ≡ b
        → sum (take (min (32 - first) count) (drop first ls)) + sum (take (min 32 (first + count - 32)) ls) ≡ sum (take count (drop first ls ++ take first ls))
    go true e =
        let l : 32 - first < count = ltb-true _ _ e in
        let j : ℕ = first + count - 32 in
        let p : take (min (32 - first) count) (drop first ls) ≡ drop first ls = take_all (min (32 - first) count) (drop first ls) (omega (arith, ld)) in
        let q : min 32 (first + count - 32) ≡ first + count - 32 = omega arith in
        let n : count ≡ length (drop first ls) + (first + count - 32) = omega (arith, ld) in
        let r : take count (drop first ls ++ take first ls) ≡ drop first ls ++ take (first + count - 32) ls =
        ap (λ (k : ℕ). take k (drop first ls ++ take first ls)) n ∙ take-append-add (drop first ls) (take first ls) (first + count - 32)
        ∙ ap (λ (x : List ℕ). drop first ls ++ x) (take-take (first + count - 32) first ls (omega arith)) in
        rw (p, q) (sym (ap sum r ∙ sum_append (drop first ls) (take (first + count - 32) ls)))
    go false e =
        let l : count ≤ 32 - first = ltb-false _ _ e in
        let p : min (32 - first) count ≡ count = omega arith in
        let q : min 32 (first + count - 32) ≡ 0 = omega arith in
        let r : take count (drop first ls ++ take first ls) ≡ take count (drop first ls) = take-append-le count (drop first ls) (take first ls) (omega (arith, ld)) in
        rw (p, q, r) (omega arith)

pub one_of : (b : Bool) → from_bool b ≡ cond b 1 0
one_of true = refl
one_of false = refl

-- an octet that counts or not is an octet still
pub weighed : (l r : ℕ) (b : Bool) → l < 256 → r ≡ cond b 1 0 → l * r ≤ 255
weighed l r true h e = rw e (omega arith)
weighed l r false h e = rw e (omega arith)
