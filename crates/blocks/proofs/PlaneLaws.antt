-- Bits that change places: an exchange of bits between two rows, and three of them, which turn eight rows of sixteen octets over. Assumes nothing.
use mathlib.Core.Path.{◌≡◌, refl, sym, ap, ap₂, ◌∙◌, subst}
use mathlib.Core.Logic.{◌≢◌, ◌⊎◌, ⊎_elim}
use mathlib.Core.Bool.{Bool, true, cond, ◌&&◌}
use mathlib.Core.List.{List, ◌++◌}
use Prim.Native.Nat.{ℕ, ◌+◌, ◌-◌, ◌*◌, ◌/◌, ◌%◌, ◌<◌}
use native.Mathlib.Nat.{mod-lt, eq-zero-or-pos}
use native.Mathlib.Omega.{arith}
use borrow.Author.Tests.{eq-eqb, ne_eqb, ltb-true}
use lib.Dec.{lit<, eqb, ltb}
use mir.Syntax.{w8}
use mir.Val.{Fits}
use lib.ListN.{length, get_or, set, take, drop, length-set}
use lib.Seq.{get_or-set_same, get_or-set_other}
use Rattle.octets.specs.Octets.{tab}
use Rattle.octets.proofs.BoolLaws.{and_true}
use Rattle.octets.proofs.TabLaws.{agree, get_or_tab, tab_ext}
use Rattle.blocks.specs.Blocks.{bit_of, gather, block_octet, block}
use Rattle.blocks.proofs.BitLaws.{Mask, odd_is_one, bits_all}
use Rattle.blocks.proofs.RiffleLaws.{taken, rows_riffled, part_tab}
use Rattle.blocks.proofs.BlocksLaws.{gather_lt, gather_bit}

-- bit p of octet n
abbrev pub bit_at : List ℕ → ℕ → ℕ → ℕ
bit_at xs n p = bit_of (get_or xs n 0) p

-- two numbers are one or are not
pub by_cases : {A : Type 0} (x y : ℕ) → (x ≡ y → A) → (x ≢ y → A) → A
by_cases x y own other = ⊎_elim (λ z. own (omega arith)) (λ g. other (λ e. omega arith)) (eq-zero-or-pos (x - y + (y - x)))

-- an octet that is done after this turn and is octet i of neither half was done before it
done_before : (n i : ℕ) → n < 128 → i < 64 → n ≢ 64 + i → n ≢ i → n % 64 < i + 1 → n % 64 < i
done_before n i hn hi above other h = ⊎_elim (λ z. absurd (⊎_elim (λ l. other (omega arith)) (λ g. above (omega arith)) (eq-zero-or-pos (n / 64)))) (λ g. omega arith) (eq-zero-or-pos (i - n % 64))

-- ---- how far bits move, and the mask of those that stay

abbrev pub StepAndMask : ℕ → ℕ → Type 0
StepAndMask d m = ((d ≡ 1) × (m ≡ 85)) ⊎ (((d ≡ 2) × (m ≡ 51)) ⊎ ((d ≡ 4) × (m ≡ 15)))

-- what a function that exchanges two octets' bits asks of d and m
pub mask_needs : (d m : ℕ) → StepAndMask d m → (0 < d) × (d < 8) × Mask d m
unfolding tab
mask_needs d m t =
    let at : (e n : ℕ) → (0 < e) × (e < 8) × Mask e n → (d ≡ e) × (m ≡ n) → (0 < d) × (d < 8) × Mask d m =
    λ e n h k. subst (λ (x : ℕ). (0 < x) × (x < 8) × Mask x m) (sym k.0) (subst (λ (x : ℕ). (0 < e) × (e < 8) × Mask e x) (sym k.1) h) in
    ⊎_elim
    (at 1 85 (lit< tt, lit< tt, agree (λ (p : ℕ). bit_of 85 p) (λ (p : ℕ). 1 - p / 1 % 2) 8 refl))
    (⊎_elim
    (at 2 51 (lit< tt, lit< tt, agree (λ (p : ℕ). bit_of 51 p) (λ (p : ℕ). 1 - p / 2 % 2) 8 refl))
    (at 4 15 (lit< tt, lit< tt, agree (λ (p : ℕ). bit_of 15 p) (λ (p : ℕ). 1 - p / 4 % 2) 8 refl)))
    t

-- ---- one exchange

-- where bit p of octet n comes from before the rows are riffled: its octet and its bit
abbrev pub crossed_octet : ℕ → ℕ → ℕ → ℕ
crossed_octet d n p = 64 * (p / d % 2) + n % 64

abbrev pub crossed_bit : ℕ → ℕ → ℕ → ℕ
crossed_bit d n p = p + d * (n / 64) - d * (p / d % 2)

-- and after
abbrev pub exchanged_octet : ℕ → ℕ → ℕ → ℕ
exchanged_octet d n p = 64 * (p / d % 2) + (n / 32 * 16 + n % 16)

abbrev pub exchanged_bit : ℕ → ℕ → ℕ → ℕ
exchanged_bit d n p = p + d * (n / 16 % 2) - d * (p / d % 2)

module _ (xs : List ℕ) (d i p v : ℕ) (hi : i < 64) where
  crossed_is : (n x y o b : ℕ) → p / d % 2 ≡ x → n / 64 ≡ y → n % 64 ≡ i → 64 * x + i ≡ o → p + d * y - d * x ≡ b → bit_at xs (crossed_octet d n p) (crossed_bit d n p) ≡ bit_at xs o b
  crossed_is n x y o b ex ey ei eo eb = rw (ex, ey, ei) (ap₂ (bit_at xs) eo eb)

  from_lower : bit_of v p ≡ cond (eqb (p / d % 2) 0) (bit_at xs i p) (bit_at xs (64 + i) (p - d)) → bit_of v p ≡ bit_at xs (crossed_octet d i p) (crossed_bit d i p)
  from_lower h =
      ⊎_elim
      (λ z. h ∙ rw (eq-eqb (p / d % 2) 0 z) (sym (crossed_is i 0 0 i p z (omega arith) (omega arith) (omega arith) (omega arith))))
      (λ g. h ∙ rw (ne_eqb (p / d % 2) 0 (λ n. omega arith)) (sym (crossed_is i 1 0 (64 + i) (p - d) (odd_is_one (p / d) g) (omega arith) (omega arith) (omega arith) (omega arith))))
      (eq-zero-or-pos (p / d % 2))

  from_upper : bit_of v p ≡ cond (eqb (p / d % 2) 0) (bit_at xs i (p + d)) (bit_at xs (64 + i) p) → bit_of v p ≡ bit_at xs (crossed_octet d (64 + i) p) (crossed_bit d (64 + i) p)
  from_upper h =
      ⊎_elim
      (λ z. h ∙ rw (eq-eqb (p / d % 2) 0 z) (sym (crossed_is (64 + i) 0 1 i (p + d) z (omega arith) (omega arith) (omega arith) (omega arith))))
      (λ g. h ∙ rw (ne_eqb (p / d % 2) 0 (λ n. omega arith)) (sym (crossed_is (64 + i) 1 1 (64 + i) p (odd_is_one (p / d) g) (omega arith) (omega arith) (omega arith) (omega arith))))
      (eq-zero-or-pos (p / d % 2))

-- a turn of the loop that exchanges: octet i of each half is done
abbrev pub Done : List ℕ → ℕ → List ℕ → ℕ → Type 0
Done xs d to i = (n p : ℕ) → n < 128 → p < 8 → n % 64 < i → bit_at to n p ≡ bit_at xs (crossed_octet d n p) (crossed_bit d n p)

pub cross_more : (xs to : List ℕ) (d i lo hi : ℕ) → i < 64 → length to ≡ 128
    → ((p : ℕ) → p < 8 → bit_of lo p ≡ cond (eqb (p / d % 2) 0) (bit_at xs i p) (bit_at xs (64 + i) (p - d)))
    → ((p : ℕ) → p < 8 → bit_of hi p ≡ cond (eqb (p / d % 2) 0) (bit_at xs i (p + d)) (bit_at xs (64 + i) p))
    → Done xs d to i → Done xs d (set (set to i lo) (64 + i) hi) (i + 1)
cross_more xs to d i lo hi h l hl hu done n p hn hp hd =
    let first : List ℕ = set to i lo in
    let second : List ℕ = set first (64 + i) hi in
    let ls : length first ≡ 128 = length-set to i lo ∙ l in
    by_cases n (64 + i)
    (λ e. subst (λ (k : ℕ). bit_at second k p ≡ bit_at xs (crossed_octet d k p) (crossed_bit d k p)) (sym e)
    (ap (λ (v : ℕ). bit_of v p) (get_or-set_same first (64 + i) hi 0 (omega arith)) ∙ from_upper xs d i p hi h (hu p hp)))
    (λ above. ap (λ (v : ℕ). bit_of v p) (get_or-set_other first (64 + i) n hi 0 above)
    ∙ by_cases n i
    (λ e. subst (λ (k : ℕ). bit_at first k p ≡ bit_at xs (crossed_octet d k p) (crossed_bit d k p)) (sym e)
    (ap (λ (v : ℕ). bit_of v p) (get_or-set_same to i lo 0 (omega arith)) ∙ from_lower xs d i p lo h (hl p hp)))
    (λ other. ap (λ (v : ℕ). bit_of v p) (get_or-set_other to i n lo 0 other) ∙ done n p hn hp (done_before n i hn h above other hd)))

-- the rows riffled after it
rows_low : (n : ℕ) → n < 128 → rows_riffled n % 64 ≡ n / 32 * 16 + n % 16
unfolding tab
rows_low = agree (λ (n : ℕ). rows_riffled n % 64) (λ (n : ℕ). n / 32 * 16 + n % 16) 128 refl

rows_high : (n : ℕ) → n < 128 → rows_riffled n / 64 ≡ n / 16 % 2
unfolding tab
rows_high = agree (λ (n : ℕ). rows_riffled n / 64) (λ (n : ℕ). n / 16 % 2) 128 refl

rows_lt : (n : ℕ) → n < 128 → rows_riffled n < 128
rows_lt n h = omega arith

pub exchange_end : (xs to r : List ℕ) (d : ℕ) → Done xs d to 64 → r ≡ tab (taken rows_riffled to) 128
    → (n p : ℕ) → n < 128 → p < 8 → bit_at r n p ≡ bit_at xs (exchanged_octet d n p) (exchanged_bit d n p)
exchange_end xs to r d done e n p hn hp =
    ap (λ (v : ℕ). bit_of v p) (ap (λ (l : List ℕ). get_or l n 0) e ∙ get_or_tab (taken rows_riffled to) 128 n 0 hn)
    ∙ done (rows_riffled n) p (rows_lt n hn) hp (mod-lt (rows_riffled n) (lit< tt))
    ∙ ap₂ (λ (low high : ℕ). bit_at xs (64 * (p / d % 2) + low) (p + d * high - d * (p / d % 2))) (rows_low n hn) (rows_high n hn)

-- ---- three exchanges turn the bits over: row and bit change over

-- bit p of octet n followed back through the third exchange, the second and the first, at all 1,024: each step stays within 128 octets of eight bits
abbrev followed_back : ℕ → ℕ → (Bool × Bool) × (ℕ × ℕ)
followed_back n p =
    let n₁ : ℕ = exchanged_octet 1 n p in
    let p₁ : ℕ = exchanged_bit 1 n p in
    let n₂ : ℕ = exchanged_octet 2 n₁ p₁ in
    let p₂ : ℕ = exchanged_bit 2 n₁ p₁ in
    ((ltb n₁ 128 && ltb p₁ 8, ltb n₂ 128 && ltb p₂ 8), (exchanged_octet 4 n₂ p₂, exchanged_bit 4 n₂ p₂))

followed_back_lem : (n p : ℕ) → n < 128 → p < 8 → followed_back n p ≡ ((true, true), (16 * p + n % 16, n / 16))
unfolding tab
followed_back_lem n p hn hp =
    agree (followed_back n) (λ (p : ℕ). ((true, true), (16 * p + n % 16, n / 16))) 8
    (agree (λ (n : ℕ). tab (followed_back n) 8) (λ (n : ℕ). tab (λ (p : ℕ). ((true, true), (16 * p + n % 16, n / 16))) 8) 128 refl n hn) p hp

within : (n p : ℕ) → (ltb n 128 && ltb p 8) ≡ true → (n < 128) × (p < 8)
within n p e = let h = and_true (ltb n 128) (ltb p 8) e in (ltb-true n 128 h.0, ltb-true p 8 h.1)

module _ (xs a b c : List ℕ) (ea : (n p : ℕ) → n < 128 → p < 8 → bit_at a n p ≡ bit_at xs (exchanged_octet 4 n p) (exchanged_bit 4 n p))
    (eb : (n p : ℕ) → n < 128 → p < 8 → bit_at b n p ≡ bit_at a (exchanged_octet 2 n p) (exchanged_bit 2 n p))
    (ec : (n p : ℕ) → n < 128 → p < 8 → bit_at c n p ≡ bit_at b (exchanged_octet 1 n p) (exchanged_bit 1 n p)) where
  pub three_exchanges : (n p : ℕ) → n < 128 → p < 8 → bit_at c n p ≡ bit_at xs (16 * p + n % 16) (n / 16)
  three_exchanges n p hn hp =
      let n₁ : ℕ = exchanged_octet 1 n p in
      let p₁ : ℕ = exchanged_bit 1 n p in
      let n₂ : ℕ = exchanged_octet 2 n₁ p₁ in
      let p₂ : ℕ = exchanged_bit 2 n₁ p₁ in
      let t : followed_back n p ≡ ((true, true), (16 * p + n % 16, n / 16)) = followed_back_lem n p hn hp in
      let h₁ = within n₁ p₁ (ap (λ (r : (Bool × Bool) × (ℕ × ℕ)). r.0.0) t) in
      let h₂ = within n₂ p₂ (ap (λ (r : (Bool × Bool) × (ℕ × ℕ)). r.0.1) t) in
      ec n p hn hp ∙ eb n₁ p₁ h₁.0 h₁.1 ∙ ea n₂ p₂ h₂.0 h₂.1 ∙ ap (λ (r : (Bool × Bool) × (ℕ × ℕ)). bit_at xs r.1.0 r.1.1) t

-- ---- samples and their planes

-- ys is xs turned over: plane w, of the octets from 16 * w on, has the bits of weight 2 ^ w
abbrev pub Turned : List ℕ → List ℕ → Type 0
Turned xs ys = (n p : ℕ) → n < 128 → p < 8 → bit_at ys n p ≡ bit_at xs (8 * (n % 16) + p) (n / 16)

-- octet j of row p, counted through
row_of : (p j : ℕ) → j < 16 → (16 * p + j) / 16 ≡ p
row_of p j h = omega arith

lane_of : (p j : ℕ) → j < 16 → (16 * p + j) % 16 ≡ j
lane_of p j h = omega arith

-- octets that stand every eighth together, as four riffles leave them, turned over: the planes
pub planes_of : (xs d r : List ℕ) → ((i : ℕ) → i < 128 → get_or d i 0 ≡ get_or xs (8 * (i % 16) + i / 16) 0)
    → ((n p : ℕ) → n < 128 → p < 8 → bit_at r n p ≡ bit_at d (16 * p + n % 16) (n / 16)) → Turned xs r
planes_of xs d r ed er n p hn hp =
    let j : ℕ = n % 16 in
    let hj : j < 16 = mod-lt n (lit< tt) in
    er n p hn hp
    ∙ ap (λ (v : ℕ). bit_of v (n / 16)) (ed (16 * p + j) (omega arith) ∙ ap₂ (λ (lane row : ℕ). get_or xs (8 * lane + row) 0) (lane_of p j hj) (row_of p j hj))

-- and back, by three more
pub samples_of_lem : (planes c r : List ℕ) → ((n p : ℕ) → n < 128 → p < 8 → bit_at c n p ≡ bit_at planes (16 * p + n % 16) (n / 16))
    → ((i : ℕ) → i < 128 → get_or r i 0 ≡ get_or c (16 * (i % 8) + i / 8) 0) → Turned r planes
samples_of_lem planes c r ec er n p hn hp =
    let j : ℕ = n % 16 in
    let hj : j < 16 = mod-lt n (lit< tt) in
    let lane : (8 * j + p) / 8 ≡ j = omega arith in
    let bit : (8 * j + p) % 8 ≡ p = omega arith in
    let whole : 16 * (n / 16) + j ≡ n = omega arith in
    sym
    (ap (λ (v : ℕ). bit_of v (n / 16)) (er (8 * j + p) (omega arith) ∙ ap₂ (λ (row col : ℕ). get_or c (16 * row + col) 0) bit lane)
    ∙ ec (16 * p + j) (n / 16) (omega arith) (omega arith)
    ∙ ap₂ (bit_at planes) (ap (λ (k : ℕ). 16 * (n / 16) + k) (lane_of p j hj) ∙ whole) (row_of p j hj))

pub turned_at : (xs ys : List ℕ) → Turned xs ys → (w j k : ℕ) → w < 8 → j < 16 → k < 8 → bit_at ys (16 * w + j) k ≡ bit_at xs (8 * j + k) w
turned_at xs ys t w j k hw hj hk = t (16 * w + j) k (omega arith) hk ∙ ap₂ (λ (lane row : ℕ). bit_at xs (8 * lane + k) row) (lane_of w j hj) (row_of w j hj)

-- a plane is a block
plane_block : (xs ys : List ℕ) (w : ℕ) → Turned xs ys → length ys ≡ 128 → ((i : ℕ) → Fits w8 (get_or ys i 0)) → w < 8 → take 16 (drop (16 * w) ys) ≡ block xs w
unfolding block block_octet
plane_block xs ys w t l octets h =
    part_tab ys (16 * w) 16 (omega arith)
    ∙ tab_ext (λ j. get_or ys (16 * w + j) 0) (block_octet xs w) 16
    (λ j hj. bits_all 8 (get_or ys (16 * w + j) 0) (gather xs w (8 * j) 8) (octets (16 * w + j)).fits (gather_lt xs w (8 * j) 8)
    (λ k hk. turned_at xs ys t w j k h hj hk ∙ sym (gather_bit xs w (8 * j) k 8 hk)))

pub block_put : (xs ys part last : List ℕ) (w : ℕ) → Turned xs ys → length ys ≡ 128 → ((i : ℕ) → Fits w8 (get_or ys i 0)) → w < 8
    → last ≡ take 16 (drop (16 * w) ys) ++ drop 16 part → last ≡ block xs w ++ drop 16 part
block_put xs ys part last w t l octets h e = e ∙ ap (λ (b : List ℕ). b ++ drop 16 part) (plane_block xs ys w t l octets h)
