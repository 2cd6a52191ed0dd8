-- Reading: a block added to its plane, and what the planes hold after each: the samples read so far, turned over. Assumes nothing.
use mathlib.Core.Path.{◌≡◌, refl, sym, ap, ap₂, ◌∙◌, subst}
use mathlib.Core.Logic.{◌≢◌, ⊎_elim}
use mathlib.Core.List.{List, ◌++◌}
use Prim.Native.Nat.{ℕ, suc, ◌+◌, ◌-◌, ◌*◌, ◌/◌, ◌%◌, ◌^◌, ◌≤◌, ◌<◌}
use native.Mathlib.Nat.{add-zero, div-one, zero-div, le_of_lt, mod-lt, eq-zero-or-pos}
use native.Mathlib.Omega.{arith}
use lib.Dec.{lit<}
use lib.Pow.{pow_pos, pow_mono}
use mir.Syntax.{w8}
use mir.Val.{Fits}
use lib.ListN.{length, get_or, take, drop, length-append, length-drop, get_or-append, replicate, get_or-replicate}
use lib.Seq.{get_or-take, get_or-drop, get_or-append-add, ext_get_or, length-take-le}
use Rattle.octets.specs.Octets.{tab}
use Rattle.octets.proofs.TabLaws.{get_or_tab, length_tab}
use Rattle.blocks.specs.Blocks.{bit_of, weight, sample, samples}
use Rattle.blocks.proofs.BitLaws.{bit_lt, bit_up, bit_down, bit_below, bits_all}
use Rattle.blocks.proofs.BlocksLaws.{bit_in, next_block, zero_filled, sample_room}
use Rattle.blocks.proofs.PlaneLaws.{bit_at, by_cases, Turned, turned_at}

-- a row with the octets of a block in it
abbrev pub row_to : List ℕ → List ℕ → ℕ → ℕ → List ℕ
row_to xs part at j = take at xs ++ take j part ++ drop (at + j) xs

pub row_put : (xs part lent last : List ℕ) (w : ℕ) → last ≡ row_to xs lent (16 * w) 16 → lent ≡ part → last ≡ row_to xs part (16 * w) 16
row_put xs part lent last w e p = e ∙ ap (λ (l : List ℕ). row_to xs l (16 * w) 16) p

-- an octet after it: of the block in its row, as it was in the others
module _ (xs part : List ℕ) (w : ℕ) (hx : 16 * w + 16 ≤ length xs) (hp : 16 ≤ length part) where
  abbrev front : List ℕ
  front = take (16 * w) xs ++ take 16 part

  length_before : length (take (16 * w) xs) ≡ 16 * w
  length_before = length-take-le (16 * w) xs (omega arith)

  length_front : length front ≡ 16 * w + 16
  length_front = length-append (take (16 * w) xs) (take 16 part) ∙ omega (arith, length_before, length-take-le 16 part hp)

  pub row_length : length (row_to xs part (16 * w) 16) ≡ length xs
  row_length = length-append front (drop (16 * w + 16) xs) ∙ omega (arith, length_front, length-drop (16 * w + 16) xs)

  row_own : (j : ℕ) → j < 16 → get_or (row_to xs part (16 * w) 16) (16 * w + j) 0 ≡ get_or part j 0
  row_own j h =
      get_or-append front (drop (16 * w + 16) xs) 0 (16 * w + j) (omega (arith, length_front))
      ∙ ap (λ (n : ℕ). get_or front (n + j) 0) (sym length_before) ∙ get_or-append-add (take (16 * w) xs) (take 16 part) j 0 ∙ get_or-take 16 part j 0 h

  pub row_below : (n : ℕ) → n < 16 * w → get_or (row_to xs part (16 * w) 16) n 0 ≡ get_or xs n 0
  row_below n h =
      get_or-append front (drop (16 * w + 16) xs) 0 n (omega (arith, length_front))
      ∙ get_or-append (take (16 * w) xs) (take 16 part) 0 n (omega (arith, length_before)) ∙ get_or-take (16 * w) xs n 0 h

  row_above : (n : ℕ) → 16 * w + 16 ≤ n → get_or (row_to xs part (16 * w) 16) n 0 ≡ get_or xs n 0
  row_above n h =
      let m : ℕ = n - (16 * w + 16) in
      let e : n ≡ length front + m = omega (arith, length_front) in
      let f : 16 * w + 16 + m ≡ n = omega arith in
      ap (λ (k : ℕ). get_or (row_to xs part (16 * w) 16) k 0) e ∙ get_or-append-add front (drop (16 * w + 16) xs) m 0
      ∙ get_or-drop (16 * w + 16) xs m 0 ∙ ap (λ (k : ℕ). get_or xs k 0) f

  row_other : (v j : ℕ) → j < 16 → v ≢ w → get_or (row_to xs part (16 * w) 16) (16 * v + j) 0 ≡ get_or xs (16 * v + j) 0
  row_other v j h n =
      ⊎_elim
      (λ z. ⊎_elim (λ e. absurd (n (omega arith))) (λ g. row_above (16 * v + j) (omega arith)) (eq-zero-or-pos (v - w)))
      (λ g. row_below (16 * v + j) (omega arith))
      (eq-zero-or-pos (w - v))

-- ---- the bits of a sample that is read

-- the next block's bit, and the others as they were
added_own : (z c w : ℕ) → c < 2 → bit_of ((z * 2 + c) * 2 ^ w) w ≡ c
added_own z c w h = ap (bit_of ((z * 2 + c) * 2 ^ w)) (sym (add-zero w)) ∙ bit_up (z * 2 + c) w 0 ∙ rw div-one (omega arith)

added_other : (z c w p : ℕ) → c < 2 → p ≢ w → bit_of ((z * 2 + c) * 2 ^ w) p ≡ bit_of (z * 2 ^ suc w) p
added_other z c w p h n =
    ⊎_elim
    (λ l. let e : p ≡ w + (1 + (p - suc w)) = ⊎_elim (λ e. absurd (n (omega arith))) (λ g. omega arith) (eq-zero-or-pos (p - w)) in
    let f : p ≡ suc w + (p - suc w) = omega arith in
    let g : (z * 2 + c) / 2 ^ 1 ≡ z = omega arith in
    ap (bit_of ((z * 2 + c) * 2 ^ w)) e ∙ bit_up (z * 2 + c) w (1 + (p - suc w)) ∙ sym (bit_down (z * 2 + c) 1 (p - suc w)) ∙ ap (λ (x : ℕ). bit_of x (p - suc w)) g
    ∙ sym (ap (bit_of (z * 2 ^ suc w)) f ∙ bit_up z (suc w) (p - suc w)))
    (λ l. bit_below (z * 2 + c) w p (omega arith) ∙ sym (bit_below z (suc w) p (omega arith)))
    (eq-zero-or-pos (w - p))

module _ (v : List ℕ) (S k i : ℕ) (h : k < S) where
  -- the sample so far ends in S - k zeros, and the bit goes to the highest of them
  abbrev z : ℕ
  z = sample v k k i

  so_far : sample v S k i ≡ z * 2 ^ suc (weight S k)
  so_far = let e : S - k ≡ suc (weight S k) = omega arith in zero_filled v i S k (le_of_lt h) ∙ ap (λ (n : ℕ). z * 2 ^ n) e

  then : sample v S (suc k) i ≡ (z * 2 + bit_in v i k) * 2 ^ weight S k
  then = next_block v i S k z h (zero_filled v i S k (le_of_lt h))

  sample_own : bit_of (sample v S (suc k) i) (weight S k) ≡ bit_in v i k
  sample_own = ap (λ (n : ℕ). bit_of n (weight S k)) then ∙ added_own z (bit_in v i k) (weight S k) (bit_lt (get_or v (16 * k + i / 8) 0) (i % 8))

  sample_other : (p : ℕ) → p ≢ weight S k → bit_of (sample v S (suc k) i) p ≡ bit_of (sample v S k i) p
  sample_other p n =
      ap (λ (n : ℕ). bit_of n p) then ∙ added_other z (bit_in v i k) (weight S k) p (bit_lt (get_or v (16 * k + i / 8) 0) (i % 8)) n ∙ sym (ap (λ (n : ℕ). bit_of n p) so_far)

-- ---- the planes are always the samples so far, turned over

zero_bit : (p : ℕ) → bit_of 0 p ≡ 0
zero_bit p = rw zero-div

pub turned_none : (v : List ℕ) (S : ℕ) → Turned (samples v S 0) (replicate 128 0)
unfolding samples sample tab
turned_none v S n p hn hp =
    let none : (m : ℕ) → m < 128 → get_or {A = ℕ} (replicate 128 0) m 0 ≡ 0 = λ m l. get_or-replicate {A = ℕ} 128 m 0 0 l in
    ap₂ bit_of (none n hn) refl ∙ zero_bit p ∙ sym (ap₂ bit_of (none (8 * (n % 16) + p) (omega arith)) refl ∙ zero_bit (n / 16))

sample_at : (v : List ℕ) (S n i : ℕ) → i < 128 → get_or (samples v S n) i 0 ≡ sample v S n i
unfolding samples
sample_at v S n i h = get_or_tab (sample v S n) 128 i 0 h

module _ (v out part : List ℕ) (S k : ℕ) (h : k < S) (hS : S ≤ 8) (t : Turned (samples v S k) out) (l : length out ≡ 128) (hp' : 16 ≤ length part)
    (same : (j : ℕ) → j < 16 → get_or part j 0 ≡ get_or v (16 * k + j) 0) where
  pub turned_more : Turned (samples v S (suc k)) (row_to out part (16 * weight S k) 16)
  turned_more n p hn hp =
      let w : ℕ = weight S k in
      let j : ℕ = n % 16 in
      let i : ℕ = 8 * j + p in
      let hj : j < 16 = mod-lt n (lit< tt) in
      let whole : n ≡ 16 * (n / 16) + j = omega arith in
      let lane : i / 8 ≡ j = omega arith in
      let bit : i % 8 ≡ p = omega arith in
      ap (λ (m : ℕ). bit_at (row_to out part (16 * w) 16) m p) whole
      ∙ by_cases (n / 16) w
      (λ own. ap (λ (v : ℕ). bit_at (row_to out part (16 * w) 16) (16 * v + j) p) own
      ∙ ap (λ (x : ℕ). bit_of x p) (row_own out part w (omega arith) hp' j hj ∙ same j hj)
      ∙ sym (ap₂ bit_of (sample_at v S (suc k) i (omega arith)) own ∙ sample_own v S k i h ∙ ap₂ (λ (a b : ℕ). bit_of (get_or v (16 * k + a) 0) b) lane bit))
      (λ other. ap (λ (x : ℕ). bit_of x p) (row_other out part w (omega arith) hp' (n / 16) j hj other ∙ ap (λ (m : ℕ). get_or out m 0) (sym whole))
      ∙ t n p hn hp ∙ ap (λ (x : ℕ). bit_of x (n / 16)) (sample_at v S k i (omega arith)) ∙ sym (ap (λ (x : ℕ). bit_of x (n / 16)) (sample_at v S (suc k) i (omega arith)) ∙ sample_other v S k i h (n / 16) other))

-- at the end they are turned back, and a list of octets has nothing but its bits
pub turned_back : (v out r : List ℕ) (S n : ℕ) → n ≤ S → S ≤ 8 → Turned (samples v S n) out → Turned r out → length r ≡ 128 → ((i : ℕ) → Fits w8 (get_or r i 0)) → r ≡ samples v S n
unfolding samples
turned_back v out r S n h hS t u l octets =
    ext_get_or 0 r (samples v S n) (l ∙ sym (length_tab (sample v S n) 128))
    (λ i k. let hi : i < 128 = omega arith in
    let e : 8 * (i / 8) + i % 8 ≡ i = omega arith in
    let same_bit : (w : ℕ) → w < 8 → bit_of (get_or r i 0) w ≡ bit_of (get_or (samples v S n) i 0) w =
    λ w hw. subst (λ (m : ℕ). bit_of (get_or r m 0) w ≡ bit_of (get_or (samples v S n) m 0) w) e
    (sym (turned_at r out u w (i / 8) (i % 8) hw (omega arith) (omega arith)) ∙ turned_at (samples v S n) out t w (i / 8) (i % 8) hw (omega arith) (omega arith)) in
    bits_all 8 (get_or r i 0) (get_or (samples v S n) i 0) (octets i).fits
    (rw (sample_at v S n i hi) (omega (arith, sample_room v S n i h, pow_pos (S - n), pow_mono {i = S} {j = 8} hS))) same_bit)
