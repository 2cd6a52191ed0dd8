-- Where a test first holds, and what bits begin with, seen in a part of the bits.
use Prim.Native.Nat.{ℕ, zero, suc, ◌+◌, ◌≤◌, ◌<◌}
use mathlib.Core.Path.{◌≡◌, refl, ap}
use mathlib.Core.Bool.{Bool, true, false, ◌&&◌, cond, beq, false≢true}
use mathlib.Core.List.{List, [], ◌∷◌}
use native.Mathlib.Nat.{zero-add, suc-add, not-suc-le-zero, le_of_suc-le-suc, le_refl}
use native.Mathlib.Omega.{arith}
use lib.Dec.{ltb, leb-suc-suc}
use borrow.Author.Tests.{lt-ltb, le-ltb, ltb-true, ltb-false}
use lib.Count.{count_trailing_zeros, trailing_of_zero}
use lib.ListN.{length, take, drop, drop_of_length-le}
use lib.Seq.{drop-length}
use Rattle.bits.specs.Bits.{value}
use Rattle.bits.specs.Marks.{marks}
use Rattle.bits.specs.Places.{begins, until}
use Rattle.bits.proofs.MarkLaws.{trailing_step}

-- ---- what bits begin with

-- what begins with p is as long
pub begins_long : (p l : List Bool) → begins p l ≡ true → length p ≤ length l
unfolding begins
begins_long [] l h = omega arith
begins_long (a ∷ p) [] h = absurd (false≢true h)
begins_long (a ∷ p) (b ∷ l) h = go (beq a b) h (begins_long p l)
  where
    go : (t : Bool) → (t && begins p l) ≡ true → (begins p l ≡ true → length p ≤ length l) → suc (length p) ≤ suc (length l)
    go true h more = omega (arith, more h)
    go false h more = absurd (false≢true h)

pub begins_take : (p : List Bool) (k : ℕ) (l : List Bool) → length p ≤ k → begins p (take k l) ≡ begins p l
unfolding begins
begins_take [] k l h = refl
begins_take (a ∷ p) zero l h = absurd (not-suc-le-zero h)
begins_take (a ∷ p) (suc k) [] h = refl
begins_take (a ∷ p) (suc k) (b ∷ l) h = ap (◌&&◌ (beq a b)) (begins_take p k l (le_of_suc-le-suc h))

-- ---- where a test first holds

suc_cond : (t : Bool) (m n : ℕ) → suc (cond t m n) ≡ cond t (suc m) (suc n)
suc_cond true m n = refl
suc_cond false m n = refl

-- what holds of the bits behind a bit at which the test is t holds of all
bit_more : (t : Bool) (a u j r s : ℕ) → u ≡ cond (ltb j a) j (r + s) → cond t 0 (suc u) ≡ cond (ltb (cond t 0 (suc j)) (suc a)) (cond t 0 (suc j)) (suc r + s)
bit_more true a u j r s e = rw (lt-ltb 0 (suc a) (omega arith))
bit_more false a u j r s e = rw (leb-suc-suc (suc j) a, e, suc-add r s) (suc_cond (ltb j a) j (r + s))

module _ (test : List Bool → Bool) where
  pub until_le : (bs : List Bool) → until test bs ≤ length bs
  unfolding until
  until_le [] = le_refl 0
  until_le (b ∷ bs) = go (test (b ∷ bs)) (until_le bs)
    where
      go : (t : Bool) → until test bs ≤ length bs → cond t 0 (suc (until test bs)) ≤ suc (length bs)
      go true h = omega arith
      go false h = omega arith

  pub until_holds : (bs : List Bool) → until test bs < length bs → test (drop (until test bs) bs) ≡ true
  unfolding until
  until_holds [] h = absurd (not-suc-le-zero h)
  until_holds (b ∷ bs) h = go (test (b ∷ bs)) refl h (until_holds bs)
    where
      go : (t : Bool) → test (b ∷ bs) ≡ t → cond t 0 (suc (until test bs)) < suc (length bs) → (until test bs < length bs → test (drop (until test bs) bs) ≡ true)
          → test (drop (cond t 0 (suc (until test bs))) (b ∷ bs)) ≡ true
      go true e h ih = e
      go false e h ih = ih (le_of_suc-le-suc h)

  pub until_none : (bs : List Bool) → until test bs ≡ length bs → test [] ≡ false → test (drop (until test bs) bs) ≡ false
  until_none bs e nil = rw (e, drop-length bs) nil

  -- whether the test holds where it first does: it does, unless it never holds
  pub until_tells : (bs : List Bool) → test [] ≡ false → test (drop (until test bs) bs) ≡ ltb (until test bs) (length bs)
  until_tells bs nil = go (ltb (until test bs) (length bs)) refl
    where
      go : (t : Bool) → ltb (until test bs) (length bs) ≡ t → test (drop (until test bs) bs) ≡ t
      go true e = until_holds bs (ltb-true _ _ e)
      go false e = until_none bs (omega (arith, until_le bs, ltb-false (until test bs) (length bs) e)) nil

  pub until_end : (l : List Bool) (i : ℕ) → length l ≤ i → until test (drop i l) ≡ 0
  unfolding until
  until_end l i h = rw (drop_of_length-le l {i = i} h)

  -- a window that shows n bits from each of its first a places on tells where the test first holds among them, by its lowest one
  module _ (n : ℕ) (sees : (k : ℕ) (l : List Bool) → n ≤ k → test (take k l) ≡ test l) where
    pub until_window : (a c k : ℕ) (l : List Bool) → a + n ≤ c → a ≤ k
        → until test l ≡ cond (ltb (count_trailing_zeros k (value (marks test (take c l)))) a) (count_trailing_zeros k (value (marks test (take c l))))
        (length (take a l) + until test (drop (length (take a l)) l))
    unfolding until marks value
    until_window zero c k l h m = rw (le-ltb (count_trailing_zeros k (value (marks test (take c l)))) 0 (omega arith), zero-add (until test l))
    until_window (suc a) zero k l h m = absurd (omega arith)
    until_window (suc a) (suc c) zero l h m = absurd (omega arith)
    until_window (suc a) (suc c) (suc k) [] h m = rw (trailing_of_zero (suc k), le-ltb (suc k) (suc a) m)
    until_window (suc a) (suc c) (suc k) (b ∷ l) h m =
        let e : test (b ∷ take c l) ≡ test (b ∷ l) = sees (suc c) (b ∷ l) (omega arith) in
        let v : ℕ = value (marks test (take c l)) in
        let r : ℕ = length (take a l) in
        rw (trailing_step k (test (b ∷ take c l)) v, e)
        (bit_more (test (b ∷ l)) a (until test l) (count_trailing_zeros k v) r (until test (drop r l)) (until_window a c k l (omega arith) (omega arith)))
