-- The check at a frame's end: the test and the seal agree, and an old check does not pass on changed octets.
use Prim.Native.Nat.{ℕ, suc, min, ◌+◌, ◌-◌, ◌*◌, ◌/◌, ◌%◌, ◌≤◌, ◌<◌}
use mathlib.Core.Path.{◌≡◌, sym, ap, ap₂, ◌∙◌}
use mathlib.Core.Bool.{true}
use mathlib.Core.Logic.{◌↔◌}
use mathlib.Core.List.{List, [], ◌∷◌, ◌++◌}
use native.Mathlib.Numerals.{add-one}
use native.Mathlib.Omega.{arith}
use borrow.Author.Tests.{eq-eqb, eqb-true}
use lib.Dec.{eqb}
use lib.ListN.{length, get_or, take, drop, set, length-append, length-take, take-append-drop}
use lib.Seq.{sets-eq, take_all, take-take, take-append-le, take-append-add, get_or-append-add, drop-cons, drop-length}
use Rattle.octets.proofs.PartLaws.{last_two}
use Rattle.fcs.specs.Fcs.{fcs_of, fcs_octets, sent_check, fcs_good}
use Rattle.fcs.proofs.ChangeLaws.{changed}

-- the test as it is worked out: the last two octets by their places, and n octets or all where there are fewer
pub tested : (n : ℕ) (f : List ℕ) {i j k low high check : ℕ} → i ≡ length f - 2 → low ≡ get_or f i 0 → j ≡ length f - 1 → high ≡ get_or f j 0
    → k ≡ min n (length f) → check ≡ fcs_of (take k f) → eqb (low + 256 * high) check ≡ fcs_good n f
unfolding fcs_good
tested n f at_low low at_high high first check =
    let within : take (min n (length f)) f ≡ take n f =
    sym (take-take (min n (length f)) n f (omega arith)) ∙ take_all (min n (length f)) (take n f) (omega (arith, length-take n f)) in
    cc

-- two stores in a row
pub stored : (at : ℕ) (f : List ℕ) (x y : ℕ) → at + 2 ≤ length f → set (set f at x) (at + 1) y ≡ take at f ++ (x ∷ y ∷ []) ++ drop (at + 2) f
stored at f x y h = rw add-one (sets-eq (x ∷ y ∷ []) f at h)

-- the seal: what is put is the check
pub sealed : (n at : ℕ) (f g : List ℕ) {check : ℕ} → check ≡ fcs_of (take n f) → g ≡ take at f ++ (check % 256 ∷ check / 256 ∷ []) ++ drop (at + 2) f
    → g ≡ take at f ++ fcs_octets (take n f) ++ drop (at + 2) f
unfolding fcs_octets
sealed n at f g e p = p ∙ ap (λ (k : ℕ). take at f ++ (k % 256 ∷ k / 256 ∷ []) ++ drop (at + 2) f) e

-- the check that a sealed list sends
pub sent : (l p : List ℕ) → sent_check (l ++ fcs_octets p) ≡ fcs_of p
unfolding fcs_octets
sent l p = let two = last_two l (fcs_of p % 256) (fcs_of p / 256) in omega arith

-- what a good frame is
pub good_is : (n : ℕ) (f : List ℕ) → (fcs_good n f ≡ true ↔ sent_check f ≡ fcs_of (take n f))
unfolding fcs_good
good_is n f = (eqb-true (sent_check f) (fcs_of (take n f)), eq-eqb (sent_check f) (fcs_of (take n f)))

-- what was sealed is good
pub sealed_good : (n : ℕ) (l : List ℕ) → n ≤ length l → fcs_good n (l ++ fcs_octets (take n l)) ≡ true
sealed_good n l h =
    (good_is n (l ++ fcs_octets (take n l))).1 (sent l (take n l) ∙ ap fcs_of (sym (take-append-le n l (fcs_octets (take n l)) h)))

-- the last two octets of a list, as a list
two_left : (f : List ℕ) (k : ℕ) → length f ≡ suc (suc k) → drop k f ≡ get_or f k 0 ∷ get_or f (suc k) 0 ∷ []
two_left f k e =
    drop-cons f k 0 (omega arith)
    ∙ ap (λ (r : List ℕ). get_or f k 0 ∷ r) (drop-cons f (suc k) 0 (omega arith) ∙ ap (λ (r : List ℕ). get_or f (suc k) 0 ∷ r) (ap (λ (n : ℕ). drop n f) (sym e) ∙ drop-length f))

-- of octets, the frames that the test takes are those that the seal leaves as they are
pub seal_agrees : (n : ℕ) (f : List ℕ) → 2 ≤ length f → ((i : ℕ) → get_or f i 0 < 256)
    → (fcs_good n f ≡ true ↔ f ≡ take (length f - 2) f ++ fcs_octets (take n f))
unfolding fcs_octets
seal_agrees n f long below = (
  λ e. sym (take-append-drop k f) ∙ ap (λ (r : List ℕ). take k f ++ r) (two_left f k (omega arith) ∙ ap₂ (λ (u v : ℕ). u ∷ v ∷ []) (low e) (high e)),
  λ e. (good_is n f).1 (ap (λ (l : List ℕ). sent_check l) e ∙ sent (take k f) (take n f)),
)
  where
    k : ℕ
    k = length f - 2

    last : length f - 1 ≡ suc (length f - 2)
    last = omega arith

    told : fcs_good n f ≡ true → get_or f k 0 + 256 * get_or f (suc k) 0 ≡ fcs_of (take n f)
    told e = rw last at ((good_is n f).0 e)

    low : fcs_good n f ≡ true → get_or f k 0 ≡ fcs_of (take n f) % 256
    low e = omega (arith, told e, below k, below (suc k))

    high : fcs_good n f ≡ true → get_or f (suc k) 0 ≡ fcs_of (take n f) / 256
    high e = omega (arith, told e, below k, below (suc k))

-- an old check on changed octets: of two frames that differ in two neighbouring octets under the check alone, at most one is good
pub stale : (a b : List ℕ) (m x y x' y' : ℕ) → x < 256 → y < 256 → x' < 256 → y' < 256 → 2 ≤ length b
    → fcs_good (length a + suc (suc m)) (a ++ x ∷ y ∷ b) ≡ true → fcs_good (length a + suc (suc m)) (a ++ x' ∷ y' ∷ b) ≡ true
    → (x ≡ x') × (y ≡ y')
stale a b m x y x' y' hx hy hx' hy' long e e' =
    changed a (take m b) x y x' y' hx hy hx' hy' (check x y e ∙ sym (check x' y' e'))
  where
    n : ℕ
    n = length a + suc (suc m)

    kept : (x y k j : ℕ) → j ≡ length a + suc (suc k) → get_or (a ++ x ∷ y ∷ b) j 0 ≡ get_or b k 0
    kept x y k j e = ap (λ (i : ℕ). get_or (a ++ x ∷ y ∷ b) i 0) e ∙ get_or-append-add a (x ∷ y ∷ b) (suc (suc k)) 0

    check : (x y : ℕ) → fcs_good n (a ++ x ∷ y ∷ b) ≡ true → fcs_of (a ++ x ∷ y ∷ take m b) ≡ sent_check b
    check x y e =
        let f = a ++ x ∷ y ∷ b in
        let l : length f ≡ length a + suc (suc (length b)) = length-append a (x ∷ y ∷ b) in
        ap fcs_of (sym (take-append-add a (x ∷ y ∷ b) (suc (suc m)))) ∙ sym ((good_is n f).0 e)
        ∙ ap₂ (λ (u v : ℕ). u + 256 * v) (kept x y (length b - 2) (length f - 2) (omega arith)) (kept x y (length b - 1) (length f - 1) (omega arith))
