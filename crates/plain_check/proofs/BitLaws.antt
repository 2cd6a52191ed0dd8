-- Zeros and ones, and the number that they make.
use Prim.Native.Nat.{ℕ, zero, suc, ◌^◌, ◌<◌, ◌≤◌}
use mathlib.Core.Path.{◌≡◌, refl, ap, ◌∙◌}
use mathlib.Core.List.{List, [], ◌∷◌, ◌++◌}
use native.Mathlib.Nat.{pow-suc}
use native.Mathlib.Omega.{arith}
use lib.ListN.{length, take, drop, length-drop}
use lib.Seq.{length-take-le}
use Rattle.octets.specs.Octets.{tab}
use Rattle.plain_check.specs.Bits.{number}
use Rattle.plain_check.specs.Check.{added}

abbrev pub Binary : List ℕ → Type 0
Binary [] = Unit {0}
Binary (b ∷ l) = (b < 2) × Binary l

pub binary_append : (a b : List ℕ) → Binary a → Binary b → Binary (a ++ b)
binary_append [] b p q = q
binary_append (x ∷ a) b p q = (p.0, binary_append a b p.1 q)

pub binary_tab : (f : ℕ → ℕ) → ((i : ℕ) → f i < 2) → (n : ℕ) → Binary (tab f n)
unfolding tab
binary_tab f h zero = tt
binary_tab f h (suc n) = binary_append (tab f n) (f n ∷ []) (binary_tab f h n) (h n, tt)

pub length_added : (a l : List ℕ) → length (added a l) ≡ length l
unfolding added
length_added [] l = refl
length_added (x ∷ a) [] = refl
length_added (x ∷ a) (y ∷ l) = ap suc (length_added a l)

-- what was added to is zeros and ones, whatever it was
pub binary_added : (a l : List ℕ) → length l ≤ length a → Binary (added a l)
unfolding added
binary_added [] [] h = tt
binary_added [] (y ∷ l) h = absurd (omega arith)
binary_added (x ∷ a) [] h = tt
binary_added (x ∷ a) (y ∷ l) h = (omega arith, binary_added a l (omega arith))

pub binary_drop : (n : ℕ) (l : List ℕ) → Binary l → Binary (drop n l)
binary_drop zero l p = p
binary_drop (suc n) [] p = tt
binary_drop (suc n) (x ∷ l) p = binary_drop n l p.1

pub binary_take : (n : ℕ) (l : List ℕ) → Binary l → Binary (take n l)
binary_take zero l p = tt
binary_take (suc n) [] p = tt
binary_take (suc n) (x ∷ l) p = (p.0, binary_take n l p.1)

pub number_below : (l : List ℕ) → Binary l → number l < 2 ^ length l
unfolding number
number_below [] p = omega arith
number_below (b ∷ l) p = omega (arith, p.0, number_below l p.1, pow-suc 2 (length l))

-- the last of the bits make no more than all
pub number_last : (front l : List ℕ) → number l ≤ number (front ++ l)
unfolding number
number_last [] l = omega arith
number_last (b ∷ front) l = omega (arith, number_last front l)

-- sixteen bits to which sixteen were added, as two octets
pub two_below : (a l : List ℕ) → length a ≡ 16 → length l ≡ 16 → let s = added a l in (length s ≡ 16) × (number (take 8 s) < 256) × (number (drop 8 s) < 256)
two_below a l ea el =
    let s = added a l in
    let e : length s ≡ 16 = length_added a l ∙ el in
    let h : Binary s = binary_added a l (omega arith) in
    let low = number_below (take 8 s) (binary_take 8 s h) in
    let high = number_below (drop 8 s) (binary_drop 8 s h) in
    let first : length (take 8 s) ≡ 8 = length-take-le 8 s (omega arith) in
    let last : length (drop 8 s) ≡ 8 = length-drop 8 s ∙ omega arith in
    (e, rw first at low, rw last at high)
