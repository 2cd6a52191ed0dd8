-- Laws of the zeros after five ones: what bits become is found a stretch at a time, up to the first five ones and behind them.
use Prim.Native.Nat.{ℕ, zero, suc, ◌+◌, ◌-◌, ◌*◌, ◌^◌, ◌≤◌, ◌<◌}
use mathlib.Core.Path.{◌≡◌, refl, sym, ap, ◌∙◌}
use mathlib.Core.Bool.{Bool, true, false, cond, false≢true}
use mathlib.Core.List.{List, [], ◌∷◌, ◌++◌, append_assoc}
use native.Mathlib.Nat.{not-suc-le-zero, le_of_suc-le-suc, le_refl, lt_of_lt_of_le}
use native.Mathlib.Omega.{arith}
use mir.Val.{bool_byte}
use lib.ListN.{length, take, drop, length-drop}
use lib.Dec.{lit<, lit≤}
use lib.Pow.{pow_mono}
use lib.Seq.{take-add, drop-drop}
use Rattle.bits.specs.Bits.{lowest, value}
use Rattle.bits.specs.Places.{begins, until}
use Rattle.bits.proofs.BitLaws.{front_lt, front_is, lowest_append, joined_lt}
use Rattle.bits.proofs.MarkLaws.{ones}
use Rattle.bits.proofs.UntilLaws.{begins_long, until_holds}
use Rattle.zeros.specs.Zeros.{stuff, unstuff}
use Rattle.zeros.specs.Parts.{five_ones, carried}

-- ---- both ways in one

-- n more ones go by before the fifth
abbrev at : Bool → ℕ → List Bool → List Bool
at true n bs = stuff n bs
at false n bs = unstuff (suc n) bs

-- what the bits behind the fifth become: a zero is put in, or a bit is left out
abbrev behind : Bool → List Bool → List Bool
behind true bs = false ∷ stuff 4 bs
behind false bs = unstuff 5 (drop 1 bs)

carried_at : (w : Bool) (bs : List Bool) → carried w bs ≡ at w 4 bs
carried_at true bs = refl
carried_at false bs = refl

at_end : (w : Bool) (n : ℕ) → at w n [] ≡ []
unfolding stuff unstuff
at_end true n = refl
at_end false n = refl

at_zero : (w : Bool) (n : ℕ) (bs : List Bool) → at w n (false ∷ bs) ≡ false ∷ at w 4 bs
unfolding stuff unstuff
at_zero true n bs = refl
at_zero false n bs = refl

at_one : (w : Bool) (n : ℕ) (bs : List Bool) → at w (suc n) (true ∷ bs) ≡ true ∷ at w n bs
unfolding stuff unstuff
at_one true n bs = refl
at_one false n bs = refl

at_fifth : (w : Bool) (bs : List Bool) → at w 0 (true ∷ bs) ≡ true ∷ behind w bs
unfolding stuff unstuff
at_fifth true bs = refl
at_fifth false [] = refl
at_fifth false (b ∷ bs) = refl

behind_is : (w : Bool) (bs : List Bool) → behind w bs ≡ lowest (cond w 1 0) 0 ++ carried w (drop (1 - cond w 1 0) bs)
unfolding lowest
behind_is true bs = refl
behind_is false bs = refl

pub put_le : (w : Bool) → cond w 1 0 ≤ 1
put_le true = lit≤ tt
put_le false = lit≤ tt

-- a test as the number that the code adds
pub byte_is : (w : Bool) → bool_byte w ≡ cond w 1 0
byte_is true = refl
byte_is false = refl

pub carried_empty : (w : Bool) → carried w [] ≡ []
carried_empty w = carried_at w [] ∙ at_end w 4

-- how long bits become
stuff_most_from : (n : ℕ) (bs : List Bool) → n ≤ 4 → 5 * length (stuff n bs) + n ≤ 6 * length bs + 4
unfolding stuff
stuff_most_from n [] h = omega arith
stuff_most_from n (false ∷ bs) h = omega (arith, stuff_most_from 4 bs (le_refl 4))
stuff_most_from zero (true ∷ bs) h = omega (arith, stuff_most_from 4 bs (le_refl 4))
stuff_most_from (suc n) (true ∷ bs) h = omega (arith, stuff_most_from n bs (omega arith))

pub stuff_most : (bs : List Bool) → 5 * length (stuff 4 bs) ≤ 6 * length bs
stuff_most bs = omega (arith, stuff_most_from 4 bs (le_refl 4))

-- ---- stretches

-- how many ones have gone by is of no account where fewer follow than are wanted
same : (w : Bool) (n m : ℕ) (bs : List Bool) → begins (ones (suc n)) bs ≡ false → n ≤ m → at w n bs ≡ at w m bs
unfolding begins
same w n m [] h l = at_end w n ∙ sym (at_end w m)
same w n m (false ∷ bs) h l = at_zero w n bs ∙ sym (at_zero w m bs)
same w zero m (true ∷ bs) h l = absurd (false≢true (sym h))
same w (suc n) zero (true ∷ bs) h l = absurd (not-suc-le-zero l)
same w (suc n) (suc m) (true ∷ bs) h l =
    at_one w n bs ∙ ap (λ (r : List Bool). true ∷ r) (same w n m bs h (le_of_suc-le-suc l)) ∙ sym (at_one w m bs)

-- bits before the first five ones stay
plain : (w : Bool) (m : ℕ) (bs : List Bool) → m ≤ until five_ones bs → at w 4 bs ≡ take m bs ++ at w 4 (drop m bs)
unfolding until begins
plain w zero bs h = refl
plain w (suc m) [] h = absurd (not-suc-le-zero h)
plain w (suc m) (false ∷ bs) h = at_zero w 4 bs ∙ ap (λ (r : List Bool). false ∷ r) (plain w m bs (le_of_suc-le-suc h))
plain w (suc m) (true ∷ bs) h = go (begins (ones 4) bs) refl h (plain w m bs)
  where
    go : (t : Bool) → begins (ones 4) bs ≡ t → suc m ≤ cond t 0 (suc (until five_ones bs))
        → (m ≤ until five_ones bs → at w 4 bs ≡ take m bs ++ at w 4 (drop m bs)) → at w 4 (true ∷ bs) ≡ true ∷ (take m bs ++ at w 4 (drop m bs))
    go true e h ih = absurd (not-suc-le-zero h)
    go false e h ih = at_one w 3 bs ∙ ap (λ (r : List Bool). true ∷ r) (same w 3 4 bs e (omega arith) ∙ ih (le_of_suc-le-suc h))

five : (w : Bool) (n : ℕ) (bs : List Bool) → begins (ones (suc n)) bs ≡ true → at w n bs ≡ take (suc n) bs ++ behind w (drop (suc n) bs)
unfolding begins
five w n [] h = absurd (false≢true h)
five w n (false ∷ bs) h = absurd (false≢true h)
five w zero (true ∷ bs) h = at_fifth w bs
five w (suc n) (true ∷ bs) h = at_one w n bs ∙ ap (λ (r : List Bool). true ∷ r) (five w n bs h)

-- ---- pieces

-- the first `taken` of the bits become the n bits of `made`, and what is left is carried by itself
pub record Made (w : Bool) (bs : List Bool) (made n taken : ℕ) : Type 0 where
  pub fits : made < 2 ^ n
  pub is : carried w bs ≡ lowest n made ++ carried w (drop taken bs)

pub made_none : (w : Bool) (bs : List Bool) → Made w bs 0 0 0
unfolding lowest
made_none w bs = record { fits = lit< tt; is = refl }

-- one piece behind the other
pub made_more : (w : Bool) (bs : List Bool) (x n t y m g : ℕ) → Made w bs x n t → Made w (drop t bs) y m g
    → Made w bs (x + y * 2 ^ n) (n + m) (t + g)
made_more w bs x n t y m g a b =
    record {
      fits = joined_lt n m x y a.fits b.fits;
      is =
          a.is ∙ ap (λ (r : List Bool). lowest n x ++ r) b.is
          ∙ rw (lowest_append n m x y a.fits, append_assoc (lowest n x) (lowest m y) (carried w (drop (t + g) bs)), drop-drop g t bs);
    }

module _ (w : Bool) (bs : List Bool) where
  -- bits before the first five ones
  pub made_plain : (m : ℕ) → m ≤ until five_ones bs → m ≤ length bs → Made w bs (value (take m bs)) m m
  made_plain m h l =
      record { fits = front_lt m bs; is = rw (front_is m bs l, carried_at w bs, carried_at w (drop m bs)) (plain w m bs h) }

  module _ (h : until five_ones bs < length bs) where
    pub five_room : until five_ones bs + 5 ≤ length bs
    five_room =
        let j : ℕ = until five_ones bs in
        omega (arith, begins_long (ones 5) (drop j bs) (until_holds five_ones bs h), length-drop j bs)

    -- bits up to the first five ones, and what is put in or left out behind these
    pub made_five : (let j : ℕ = until five_ones bs in let put : ℕ = cond w 1 0 in Made w bs (value (take (j + 5) bs)) (j + 5 + put) (j + 5 + (1 - put)))
    made_five =
        let j : ℕ = until five_ones bs in
        let put : ℕ = cond w 1 0 in
        let d : List Bool = drop j bs in
        let x : ℕ = value (take (j + 5) bs) in
        let y : x ≡ x + 0 * 2 ^ (j + 5) = omega arith in
        let gone : ℕ = j + 5 + (1 - put) in
        let g : j + (5 + (1 - put)) ≡ gone = omega arith in
        let a : carried w bs ≡ take j bs ++ (take 5 d ++ behind w (drop 5 d)) =
        carried_at w bs ∙ plain w j bs (le_refl j) ∙ ap (λ (r : List Bool). take j bs ++ r) (five w 4 d (until_holds five_ones bs h)) in
        let b : behind w (drop 5 d) ≡ lowest put 0 ++ carried w (drop gone bs) =
        behind_is w (drop 5 d) ∙ rw (drop-drop (1 - put) 5 d, drop-drop (5 + (1 - put)) j bs, g) in
        let n : lowest (j + 5 + put) x ≡ take (j + 5) bs ++ lowest put 0 =
        ap (lowest (j + 5 + put)) y ∙ lowest_append (j + 5) put x 0 (front_lt (j + 5) bs) ∙ rw (front_is (j + 5) bs five_room) in
        record {
          fits = lt_of_lt_of_le (front_lt (j + 5) bs) (pow_mono {i = j + 5} {j = j + 5 + put} (omega arith));
          is = a ∙ rw (b, n, take-add j 5 bs) (simp append_assoc);
        }
