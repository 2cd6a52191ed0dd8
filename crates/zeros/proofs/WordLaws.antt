-- Words of bits: where five ones begin is seen in a number that some of the bits stand in.
use Prim.Native.Nat.{ℕ, zero, suc, ◌+◌, ◌-◌, ◌*◌, ◌/◌, ◌%◌, ◌^◌, ◌≤◌, ◌<◌, min}
use mathlib.Core.Path.{◌≡◌, refl, sym, ap, ◌∙◌}
use mathlib.Core.Bool.{Bool, true, false, cond, ◌&&◌, beq}
use mathlib.Core.List.{List, [], ◌∷◌}
use native.Mathlib.Nat.{not-suc-le-zero, le_of_eq, le_of_suc-le-suc, min-zero, mod-lt, lt_of_lt_of_le}
use native.Mathlib.Omega.{arith}
use lib.Bits.{bit_and, and_mask}
use lib.Pow.{pow_pos, pow_mono, shl_exact}
use lib.ListN.{length, take, drop, length-drop}
use lib.Seq.{take_all, take-nil, take-take, drop-drop}
use Rattle.bits.specs.Bits.{lowest, value}
use Rattle.bits.specs.Places.{begins, until}
use Rattle.bits.proofs.BitLaws.{value_take, value_drop, value_lowest, length_lowest, lowest_cons, joined_lt, shifted, drop_take}
use Rattle.bits.proofs.MarkLaws.{ones}
use Rattle.bits.proofs.UntilLaws.{until_le}
use Rattle.zeros.specs.Parts.{five_ones, Some}
use Rattle.zeros.proofs.CarryLaws.{Made, made_none, made_more, made_plain, made_five, five_room, put_le}

-- ones that begin the bits begin a number that enough of the bits stand in: the zeros above them are no ones
begins_seen : (p n k : ℕ) (bs : List Bool) → p ≤ n → n ≤ k → begins (ones p) (lowest k (value (take n bs))) ≡ begins (ones p) bs
unfolding begins value lowest
begins_seen zero n k bs h l = refl
begins_seen (suc p) n zero [] h l = refl
begins_seen (suc p) n (suc k) [] h l = rw (take-nil {A = Bool} n)
begins_seen (suc p) zero k (b ∷ bs) h l = absurd (not-suc-le-zero h)
begins_seen (suc p) (suc n) zero (b ∷ bs) h l = absurd (not-suc-le-zero l)
begins_seen (suc p) (suc n) (suc k) (b ∷ bs) h l =
    ap (begins (ones (suc p))) (lowest_cons k b (value (take n bs)))
    ∙ ap (λ (t : Bool). beq true b && t) (begins_seen p n k bs (le_of_suc-le-suc h) (le_of_suc-le-suc l))

-- so do five ones that begin among the first m places, where the four bits behind these stand in it too
first_seen : (m n k : ℕ) (bs : List Bool) → m ≤ length bs → m ≤ n - 4 → n ≤ k
    → min (until five_ones (lowest k (value (take n bs)))) m ≡ min (until five_ones bs) m
unfolding until begins value
first_seen zero n k bs s h l = min-zero _ ∙ sym (min-zero _)
first_seen (suc m) n k [] s h l = absurd (not-suc-le-zero s)
first_seen (suc m) zero k (b ∷ bs) s h l = absurd (omega arith)
first_seen (suc m) (suc n) zero (b ∷ bs) s h l = absurd (not-suc-le-zero l)
first_seen (suc m) (suc n) (suc k) (b ∷ bs) s h l =
    let v : ℕ = value (take n bs) in
    let e : begins (ones 4) (lowest k v) ≡ begins (ones 4) bs = begins_seen 4 n k bs (omega arith) (le_of_suc-le-suc l) in
    rw (lowest_cons k b v, e)
    (go (until five_ones (lowest k v)) (until five_ones bs) (five_ones (b ∷ bs)) (first_seen m n k bs (le_of_suc-le-suc s) (omega arith) (le_of_suc-le-suc l)))
  where
    go : (x y : ℕ) (t : Bool) → min x m ≡ min y m → min (cond t 0 (suc x)) (suc m) ≡ min (cond t 0 (suc y)) (suc m)
    go x y true q = refl
    go x y false q = omega arith

-- the lowest k bits of w, as the code finds them, behind the n bits of made
module _ (made n w k : ℕ) (fits : made < 2 ^ n) (room : n + k < 64) where
  pub behind_is : bit_and w (1 * 2 ^ k % 18446744073709551616 - 1) * 2 ^ n % 18446744073709551616 ≡ w % 2 ^ k * 2 ^ n
  behind_is =
      rw (shifted k (omega arith), and_mask w k)
      (shl_exact {a = w % 2 ^ k} k n 64 (mod-lt w (pow_pos k)) (omega arith))

  pub behind_fits : made + w % 2 ^ k * 2 ^ n < 2 ^ 64
  behind_fits = lt_of_lt_of_le (joined_lt n k made (w % 2 ^ k) fits (mod-lt w (pow_pos k))) (pow_mono {i = n + k} {j = 64} (omega arith))

-- ---- the turns of carry_word

-- what stands in the word after some turns
pub record Turn (w : Bool) (bs : List Bool) (word made n taken : ℕ) : Type 0 where
  pub piece : Made w bs made n taken
  pub left : word ≡ value (take (48 - taken) (drop taken bs))
  pub within : taken ≤ suc (length bs)
  pub far : taken + cond w 1 0 ≤ 49
  pub short : 5 * n ≤ 6 * (taken + cond w 1 0 - 1)

pub turn_none : (w : Bool) (bs : List Bool) (word : ℕ) → word ≡ value (take 48 bs) → Turn w bs word 0 0 0
turn_none w bs word e = record { piece = made_none w bs; left = e; within = omega arith; far = omega (arith, put_le w); short = omega arith }

short_more : (n j t p : ℕ) → p ≤ 1 → 5 * n ≤ 6 * (t + p - 1) → 5 * (n + (j + 5 + p)) ≤ 6 * (t + (j + 5 + (1 - p)) + p - 1)
short_more n j t p h s = omega arith

short_last : (n t s p : ℕ) → p ≤ 1 → t + p ≤ 49 → 5 * n ≤ 6 * (t + p - 1) → s ≤ 44 → n + (s - t) ≤ 57
short_last n t s p h f q l = omega arith

module _ (w : Bool) (bs : List Bool) (sure word made n taken j : ℕ) (s : sure ≤ 44) (l : sure ≤ length bs) (t : Turn w bs word made n taken)
    (e : j ≡ until five_ones (lowest 64 word)) where
  -- the first m bits of the word are those of what is left
  cut : (m : ℕ) → m ≤ 48 - taken → value (take m (drop taken bs)) ≡ word % 2 ^ m
  cut m h =
      let d : List Bool = drop taken bs in
      ap value (sym (take-take m (48 - taken) d h)) ∙ value_take m (take (48 - taken) d) ∙ rw (← t.left)

  seen : min j (sure - taken) ≡ min (until five_ones (drop taken bs)) (sure - taken)
  seen =
      rw (e, t.left)
      (first_seen (sure - taken) (48 - taken) 64 (drop taken bs) (omega (arith, length-drop taken bs)) (omega arith) (omega arith))

  -- the numbers fit
  pub turn_fits : (n + (sure - taken) ≤ 57) × (taken ≤ 49) × (j ≤ 64)
  turn_fits = (
    short_last n taken sure (cond w 1 0) (put_le w) t.far t.short s,
    omega (arith, t.far),
    omega (arith, until_le five_ones (lowest 64 word), length_lowest 64 word),
  )

  pub turn_five : taken + j < sure → (let put : ℕ = cond w 1 0 in let gone : ℕ = j + 5 + (1 - put) in
      Turn w bs (word / 2 ^ gone) (made + word % 2 ^ (j + 5) * 2 ^ n) (n + (j + 5 + put)) (taken + gone))
  turn_five h =
      let d : List Bool = drop taken bs in
      let put : ℕ = cond w 1 0 in
      let gone : ℕ = j + 5 + (1 - put) in
      let ld : length d ≡ length bs - taken = length-drop taken bs in
      let u : until five_ones d ≡ j = omega (arith, seen) in
      let u₂ : until five_ones d < length d = omega arith in
      let room : j + 5 ≤ length d = rw u at (five_room w d u₂) in
      let c : value (take (j + 5) d) ≡ word % 2 ^ (j + 5) = cut (j + 5) (omega arith) in
      let e₂ : 48 - taken - gone ≡ 48 - (taken + gone) = omega arith in
      record {
        piece = made_more w bs made n taken (word % 2 ^ (j + 5)) (j + 5 + put) gone t.piece (rw (u, c) at (made_five w d u₂));
        left = ap (λ (x : ℕ). x / 2 ^ gone) t.left ∙ sym (value_drop gone (take (48 - taken) d)) ∙ rw (drop_take gone (48 - taken) d, drop-drop gone taken bs, e₂);
        within = omega arith;
        far = omega (arith, put_le w);
        short = short_more n j taken put (put_le w) t.short;
      }

  pub turn_room : taken + j < sure → n + (j + 5 + cond w 1 0) ≤ 57
  turn_room h = let x = turn_five h in omega (arith, x.short, x.far)

  pub turn_last : sure ≤ taken + j → 0 < sure → (let rest : ℕ = sure - taken in
      Some w bs (made + word % 2 ^ rest * 2 ^ n) (n + rest) (taken + rest))
  turn_last h o =
      let d : List Bool = drop taken bs in
      let rest : ℕ = sure - taken in
      let ld : length d ≡ length bs - taken = length-drop taken bs in
      let c : value (take rest d) ≡ word % 2 ^ rest = cut rest (omega arith) in
      let p = made_more w bs made n taken (word % 2 ^ rest) rest rest t.piece (rw c at (made_plain w d rest (omega (arith, seen)) (omega arith))) in
      record { on = omega arith; within = omega (arith, t.within); short = turn_fits.0; fits = p.fits; is = p.is }

-- What the loop keeps, in its own numbers: `put` is 1 where a zero is put in. Of all bits that may be meant, those of the word show that the numbers fit.
pub record Under (writing : Bool) (bits sure put word made n taken j : ℕ) : Type 0 where
  pub ones : j ≡ until five_ones (lowest 64 word)
  pub turn : (bs : List Bool) → bits ≡ value (take 48 bs) → sure ≤ length bs → Turn writing bs word made n taken
  pub one : put ≤ 1
  pub fits : made < 2 ^ n
  pub short : n + (sure - taken) ≤ 57
  pub far : taken ≤ 49
  pub near : j ≤ 64
  pub room : taken + j < sure → n + (j + 5 + put) ≤ 57

module _ (writing : Bool) (bits sure put : ℕ) (few : sure ≤ 44) (small : bits < 2 ^ 48) (is : put ≡ cond writing 1 0) where
  pub under : (word made n taken j : ℕ) → j ≡ until five_ones (lowest 64 word)
      → ((bs : List Bool) → bits ≡ value (take 48 bs) → sure ≤ length bs → Turn writing bs word made n taken)
      → Under writing bits sure put word made n taken j
  under word made n taken j e turn =
      let own : List Bool = lowest 48 bits in
      let l : length own ≡ 48 = length_lowest 48 bits in
      let enough : sure ≤ length own = omega arith in
      let t : Turn writing own word made n taken = turn own (sym (ap value (take_all 48 own (le_of_eq l)) ∙ value_lowest 48 bits small)) enough in
      let f = turn_fits writing own sure word made n taken j few enough t e in
      record {
        ones = e;
        turn = turn;
        one = omega (arith, put_le writing);
        fits = t.piece.fits;
        short = f.0;
        far = f.1;
        near = f.2;
        room = λ h. omega (arith, turn_room writing own sure word made n taken j few enough t e h);
      }
