-- Octets, bits and numbers: each taken for the others, whole or in part.
use Prim.Native.Nat.{ℕ, zero, suc, ◌+◌, ◌-◌, ◌*◌, ◌/◌, ◌%◌, ◌^◌, ◌≤◌, ◌<◌, min}
use mathlib.Core.Path.{◌≡◌, refl, sym, ap, ap₂, ◌∙◌}
use mathlib.Core.Bool.{Bool, true, false, cond}
use mathlib.Core.List.{List, [], ◌∷◌, ◌++◌, append_assoc, append-nil}
use native.Mathlib.Nat.{mod-one, zero-mod, zero-div, div-one, mod-lt, mod-eq_of_lt, pow-suc, mul_comm, mul_assoc, one-mul, div-div-eq-div-mul, div-eq_of_lt, add-zero, zero-add, zero-mul, suc-add, not-suc-le-zero, le_of_suc-le-suc, zero-min, min-zero, suc-min-suc, sub-zero, zero-sub, suc-sub-suc, lt_of_lt_of_le}
use native.Mathlib.Numerals.{add-one}
use native.Mathlib.Omega.{arith}
use lib.Dec.{eqb, lit<}
use lib.Arith.{mod-mul, digits_lt}
use lib.Bits.{bit_and, and_mask}
use lib.Pow.{pow_pos, pow-add, shl_exact, pow_mono}
use lib.ListN.{length, get_or, set, take, drop, replicate, length-append, length-drop, length-replicate, drop_of_length-le}
use borrow.Rule.Slice.PartMut.{put_mid}
use Rattle.std.specs.Int.{w64, from_le_bytes}
use Rattle.std.proofs.lemmas.List.{drop-replicate}
use lib.Seq.{take-nil, drop-cons, drop-drop, drop-nil, drop_at, take_at, take-add, take_all, take-take, length-take-le, paste-suc}
use Rattle.bits.specs.Bits.{lowest, bits, value, octets_of}

-- ---- lengths

pub length_lowest : (n x : ℕ) → length (lowest n x) ≡ n
unfolding lowest
length_lowest zero x = refl
length_lowest (suc n) x = ap suc (length_lowest n (x / 2))

pub length_bits : (f : List ℕ) → length (bits f) ≡ 8 * length f
unfolding bits
length_bits [] = refl
length_bits (x ∷ xs) = length-append (lowest 8 x) (bits xs) ∙ omega (arith, length_lowest 8 x, length_bits xs)

pub length_octets : (n : ℕ) (u : List Bool) → length (octets_of n u) ≡ n
unfolding octets_of
length_octets zero u = refl
length_octets (suc n) u = ap suc (length_octets n (drop 8 u))

-- ---- whole octets

pub bits_append : (f g : List ℕ) → bits (f ++ g) ≡ bits f ++ bits g
unfolding bits
bits_append [] g = refl
bits_append (x ∷ f) g = rw (bits_append f g) (sym (append_assoc (lowest 8 x) (bits f) (bits g)))

eight_more : (j : ℕ) → 8 * suc j ≡ 8 + 8 * j
eight_more j = omega arith

pub bits_take : (j : ℕ) (f : List ℕ) → take (8 * j) (bits f) ≡ bits (take j f)
unfolding bits
bits_take zero f = refl
bits_take (suc j) [] = take-nil (8 * suc j)
bits_take (suc j) (x ∷ f) =
    let front = length_lowest 8 x in
    rw (eight_more j, take-add 8 (8 * j) (lowest 8 x ++ bits f), take_at (lowest 8 x) (bits f) 8 front, drop_at (lowest 8 x) (bits f) 8 front, bits_take j f)

pub bits_drop : (j : ℕ) (f : List ℕ) → drop (8 * j) (bits f) ≡ bits (drop j f)
unfolding bits
bits_drop zero f = refl
bits_drop (suc j) [] = drop-nil (8 * suc j)
bits_drop (suc j) (x ∷ f) =
    rw (eight_more j, ← drop-drop (8 * j) 8 (lowest 8 x ++ bits f), drop_at (lowest 8 x) (bits f) 8 (length_lowest 8 x)) (bits_drop j f)

-- ---- the value of bits

digit_lt : (b : Bool) → cond b 1 0 < 2
digit_lt true = lit< tt
digit_lt false = lit< tt

pub half : (b : Bool) (v : ℕ) → (cond b 1 0 + 2 * v) / 2 ≡ v
half b v = omega (arith, digit_lt b)

pub odd : (b : Bool) (v : ℕ) → (cond b 1 0 + 2 * v) % 2 ≡ cond b 1 0
odd b v = omega (arith, digit_lt b)

-- a digit c below a number v
digit_mod : (c v n : ℕ) → c < 2 → c + 2 * (v % 2 ^ n) ≡ (c + 2 * v) % 2 ^ suc n
digit_mod c v n h =
    let e : (c + 2 * v) / 2 ≡ v = omega arith in
    let m : (c + 2 * v) % 2 ≡ c = omega arith in
    sym (rw (pow-suc 2 n, mod-mul (c + 2 * v) {m = 2 ^ n} {c = 2} (pow_pos n) (lit< tt), e, m) (omega arith))

digit_div : (c v n : ℕ) → c < 2 → v / 2 ^ n ≡ (c + 2 * v) / 2 ^ suc n
digit_div c v n h =
    let e : (c + 2 * v) / 2 ≡ v = omega arith in
    sym (rw (pow-suc 2 n, mul_comm (2 ^ n) 2, ← div-div-eq-div-mul (c + 2 * v) 2 (2 ^ n), e))

pub value_take : (n : ℕ) (bs : List Bool) → value (take n bs) ≡ value bs % 2 ^ n
unfolding value
value_take zero bs = sym (mod-one (value bs))
value_take (suc n) [] = sym (zero-mod (2 ^ suc n))
value_take (suc n) (b ∷ bs) = rw (value_take n bs) (digit_mod (cond b 1 0) (value bs) n (digit_lt b))

pub value_drop : (n : ℕ) (bs : List Bool) → value (drop n bs) ≡ value bs / 2 ^ n
unfolding value
value_drop zero bs = sym (div-one (value bs))
value_drop (suc n) [] = sym (zero-div (2 ^ suc n))
value_drop (suc n) (b ∷ bs) = rw (value_drop n bs) (digit_div (cond b 1 0) (value bs) n (digit_lt b))

pub value_append : (us vs : List Bool) → value (us ++ vs) ≡ value us + value vs * 2 ^ length us
unfolding value
value_append [] vs = omega arith
value_append (u ∷ us) vs = rw (value_append us vs, pow-suc 2 (length us), ← mul_assoc (value vs) (2 ^ length us) 2) (omega arith)

pub value_lt : (bs : List Bool) → value bs < 2 ^ length bs
unfolding value
value_lt [] = lit< tt
value_lt (b ∷ bs) = omega (arith, value_lt bs, digit_lt b, pow-suc 2 (length bs))

-- ---- the lowest bits of a number

digit_of : (r : ℕ) → r < 2 → cond (eqb r 1) 1 0 ≡ r
digit_of zero h = refl
digit_of (suc zero) h = refl
digit_of (suc (suc r)) h = absurd (omega arith)

bit_of_lem : (b : Bool) → eqb (cond b 1 0) 1 ≡ b
bit_of_lem true = refl
bit_of_lem false = refl

pub value_low : (n x : ℕ) → value (lowest n x) ≡ x % 2 ^ n
unfolding value lowest
value_low zero x = sym (mod-one x)
value_low (suc n) x =
    let whole : x % 2 + 2 * (x / 2) ≡ x = omega arith in
    rw (digit_of (x % 2) (omega arith), value_low n (x / 2), digit_mod (x % 2) (x / 2) n (omega arith), whole)

pub value_lowest : (n x : ℕ) → x < 2 ^ n → value (lowest n x) ≡ x
value_lowest n x h = value_low n x ∙ mod-eq_of_lt h

pub lowest_cons : (n : ℕ) (b : Bool) (v : ℕ) → lowest (suc n) (cond b 1 0 + 2 * v) ≡ b ∷ lowest n v
unfolding lowest
lowest_cons n b v = rw (odd b v, half b v, bit_of_lem b)

pub lowest_value : (bs : List Bool) → lowest (length bs) (value bs) ≡ bs
unfolding value lowest
lowest_value [] = refl
lowest_value (b ∷ bs) = lowest_cons (length bs) b (value bs) ∙ ap (λ (l : List Bool). b ∷ l) (lowest_value bs)

-- the first n bits, as a number
pub front_lt : (n : ℕ) (bs : List Bool) → value (take n bs) < 2 ^ n
front_lt n bs = rw (value_take n bs) (mod-lt (value bs) (pow_pos n))

pub front_is : (n : ℕ) (bs : List Bool) → n ≤ length bs → lowest n (value (take n bs)) ≡ take n bs
front_is n bs h = ap (λ (k : ℕ). lowest k (value (take n bs))) (sym (length-take-le n bs h)) ∙ lowest_value (take n bs)

-- a number y above the n bits of x
pub joined_lt : (n m x y : ℕ) → x < 2 ^ n → y < 2 ^ m → x + y * 2 ^ n < 2 ^ (n + m)
joined_lt n m x y h l =
    rw (pow-add 2 n m) (omega (arith, digits_lt {q = y} {m = 2 ^ m} {r = x} {c = 2 ^ n} l h, mul_comm (2 ^ m) (2 ^ n)))

-- a number y above the lowest n bits of x
lowest_add : (n m x y : ℕ) → lowest (n + m) (x + y * 2 ^ n) ≡ lowest n x ++ lowest m (x / 2 ^ n + y)
unfolding lowest
lowest_add zero m x y = let e : x + y * 1 ≡ x + y = omega arith in rw (zero-add m, e, div-one x)
lowest_add (suc n) m x y =
    let p : x + y * 2 ^ suc n ≡ x + y * 2 ^ n * 2 = rw (pow-suc 2 n, ← mul_assoc y (2 ^ n) 2) in
    let half : (x + y * 2 ^ suc n) / 2 ≡ x / 2 + y * 2 ^ n = omega arith in
    let odd : (x + y * 2 ^ suc n) % 2 ≡ x % 2 = omega arith in
    rw (suc-add n m, half, odd, lowest_add n m (x / 2) y, div-div-eq-div-mul x 2 (2 ^ n), mul_comm 2 (2 ^ n), ← pow-suc 2 n)

pub lowest_append : (n m x y : ℕ) → x < 2 ^ n → lowest (n + m) (x + y * 2 ^ n) ≡ lowest n x ++ lowest m y
lowest_append n m x y h = lowest_add n m x y ∙ rw (div-eq_of_lt h, zero-add y)

pub lowest_split : (n m x : ℕ) → lowest (n + m) x ≡ lowest n x ++ lowest m (x / 2 ^ n)
lowest_split n m x = let e : x ≡ x + 0 * 2 ^ n = omega arith in ap (lowest (n + m)) e ∙ lowest_add n m x 0 ∙ rw (add-zero (x / 2 ^ n))

module _ (n m x : ℕ) (within : n ≤ m) where
  parts : lowest m x ≡ lowest n x ++ lowest (m - n) (x / 2 ^ n)
  parts = let e : m ≡ n + (m - n) = omega arith in ap (λ (k : ℕ). lowest k x) e ∙ lowest_split n (m - n) x

  pub lowest_take : take n (lowest m x) ≡ lowest n x
  lowest_take = ap (take n) parts ∙ take_at (lowest n x) (lowest (m - n) (x / 2 ^ n)) n (length_lowest n x)

-- ---- octets of bits

-- some of a list's octets are octets
pub octet_take : (n : ℕ) (f : List ℕ) → ((i : ℕ) → get_or f i 0 < 256) → (i : ℕ) → get_or (take n f) i 0 < 256
octet_take zero f o i = omega arith
octet_take (suc n) [] o i = omega arith
octet_take (suc n) (x ∷ f) o zero = o 0
octet_take (suc n) (x ∷ f) o (suc i) = octet_take n f (λ j. o (suc j)) i

pub value_octet : (x : ℕ) (f : List ℕ) → x < 256 → value (bits (x ∷ f)) ≡ x + value (bits f) * 256
unfolding bits
value_octet x f h = rw (value_append (lowest 8 x) (bits f), length_lowest 8 x, value_lowest 8 x h)

pub octets_of_bits : (f : List ℕ) → ((i : ℕ) → get_or f i 0 < 256) → octets_of (length f) (bits f) ≡ f
unfolding octets_of bits
octets_of_bits [] h = refl
octets_of_bits (x ∷ f) h =
    let front = length_lowest 8 x in
    rw (take_at (lowest 8 x) (bits f) 8 front, drop_at (lowest 8 x) (bits f) 8 front, value_lowest 8 x (h 0), octets_of_bits f (λ i. h (suc i)))

pub bits_of_octets : (n : ℕ) (bs : List Bool) → 8 * n ≤ length bs → bits (octets_of n bs) ≡ take (8 * n) bs
unfolding octets_of bits
bits_of_octets zero bs h = refl
bits_of_octets (suc n) bs h =
    rw (eight_more n, take-add 8 (8 * n) bs) (ap₂ ◌++◌ (front_is 8 bs (omega arith)) (bits_of_octets n (drop 8 bs) (omega (arith, length-drop 8 bs))))

pub octets_by_value : (n : ℕ) (us vs : List Bool) → value us ≡ value vs → octets_of n us ≡ octets_of n vs
unfolding octets_of
octets_by_value zero us vs e = refl
octets_by_value (suc n) us vs e =
    ap₂ (λ (x : ℕ) (l : List ℕ). x ∷ l) (rw (value_take 8 us, value_take 8 vs, e))
    (octets_by_value n (drop 8 us) (drop 8 vs) (rw (value_drop 8 us, value_drop 8 vs, e)))

pub octets_add : (n m : ℕ) (bs : List Bool) → octets_of (n + m) bs ≡ octets_of n bs ++ octets_of m (drop (8 * n) bs)
unfolding octets_of
octets_add zero m bs = rw (zero-add m)
octets_add (suc n) m bs = rw (suc-add n m, eight_more n, ← drop-drop (8 * n) 8 bs, octets_add n m (drop 8 bs))

pub power_octets : (n : ℕ) → 256 ^ n ≡ 2 ^ (8 * n)
power_octets zero = refl
power_octets (suc n) = rw (pow-suc 256 n, power_octets n, eight_more n, pow-add 2 8 (8 * n)) (mul_comm (2 ^ (8 * n)) 256)

pub get_or_octets : (n j : ℕ) (bs : List Bool) → j < n → get_or (octets_of n bs) j 0 ≡ value bs / 256 ^ j % 256
unfolding octets_of
get_or_octets zero j bs h = absurd (not-suc-le-zero h)
get_or_octets (suc n) zero bs h = value_take 8 bs ∙ ap (λ (x : ℕ). x % 256) (sym (div-one (value bs)))
get_or_octets (suc n) (suc j) bs h =
    get_or_octets n j (drop 8 bs) (le_of_suc-le-suc h)
    ∙ ap (λ (x : ℕ). x % 256)
    (ap (λ (x : ℕ). x / 256 ^ j) (value_drop 8 bs) ∙ div-div-eq-div-mul (value bs) 256 (256 ^ j)
    ∙ ap (λ (x : ℕ). value bs / x) (mul_comm 256 (256 ^ j) ∙ sym (pow-suc 256 j)))

-- ---- octets that are read as a number

-- the number that k octets from i on make
abbrev pub Made : ℕ → List ℕ → ℕ → ℕ → Type 0
Made k s i w = w ≡ value (bits (take k (drop i s)))

-- eight octets, as the library reads them
eight_taken : (f : List ℕ) → length f ≡ 8
    → f ≡ get_or f 0 0 ∷ get_or f 1 0 ∷ get_or f 2 0 ∷ get_or f 3 0 ∷ get_or f 4 0 ∷ get_or f 5 0 ∷ get_or f 6 0 ∷ get_or f 7 0 ∷ []
eight_taken f e =
    let step : (k : ℕ) (l : List ℕ) → k < 8 → drop (suc k) f ≡ l → drop k f ≡ get_or f k 0 ∷ l =
    λ k l h q. drop-cons f k 0 (omega arith) ∙ ap (λ (r : List ℕ). get_or f k 0 ∷ r) q in
    step 0 _ (omega arith) (step 1 _ (omega arith) (step 2 _ (omega arith) (step 3 _ (omega arith)
    (step 4 _ (omega arith) (step 5 _ (omega arith) (step 6 _ (omega arith) (step 7 _ (omega arith) (drop_of_length-le f {i = 8} (omega arith)))))))))

le_bytes_of : (a b c d e f g h : ℕ) → a < 256 → b < 256 → c < 256 → d < 256 → e < 256 → f < 256 → g < 256 → h < 256
    → from_le_bytes w64 (a ∷ b ∷ c ∷ d ∷ e ∷ f ∷ g ∷ h ∷ []) ≡ value (bits (a ∷ b ∷ c ∷ d ∷ e ∷ f ∷ g ∷ h ∷ []))
unfolding bits value
le_bytes_of a b c d e f g h la lb lc ld le lf lg lh =
    rw (
      value_octet a (b ∷ c ∷ d ∷ e ∷ f ∷ g ∷ h ∷ []) la,
      value_octet b (c ∷ d ∷ e ∷ f ∷ g ∷ h ∷ []) lb,
      value_octet c (d ∷ e ∷ f ∷ g ∷ h ∷ []) lc,
      value_octet d (e ∷ f ∷ g ∷ h ∷ []) ld,
      value_octet e (f ∷ g ∷ h ∷ []) le,
      value_octet f (g ∷ h ∷ []) lf,
      value_octet g (h ∷ []) lg,
      value_octet h [] lh,
    ) (omega arith)

pub le_bytes_is : (f : List ℕ) → length f ≡ 8 → ((i : ℕ) → get_or f i 0 < 256) → from_le_bytes w64 f ≡ value (bits f)
le_bytes_is f e o =
    let t = eight_taken f e in
    ap (from_le_bytes w64) t ∙ le_bytes_of _ _ _ _ _ _ _ _ (o 0) (o 1) (o 2) (o 3) (o 4) (o 5) (o 6) (o 7) ∙ ap (λ (l : List ℕ). value (bits l)) (sym t)

octet_append : (f : List ℕ) (k : ℕ) → ((i : ℕ) → get_or f i 0 < 256) → (i : ℕ) → get_or (f ++ replicate k 0) i 0 < 256
octet_append [] zero o i = lit< tt
octet_append [] (suc k) o zero = lit< tt
octet_append [] (suc k) o (suc i) = octet_append [] k o i
octet_append (x ∷ f) k o zero = o 0
octet_append (x ∷ f) k o (suc i) = octet_append f k (λ j. o (suc j)) i

zeros_none : (k : ℕ) → value (bits (replicate k 0)) ≡ 0
unfolding bits value
zeros_none zero = refl
zeros_none (suc k) = value_octet 0 (replicate k 0) (lit< tt) ∙ rw (zeros_none k)

-- at most eight octets, put at the front of eight zeros
pub word_is : (f x : List ℕ) {r : ℕ} → length f ≤ 8 → ((i : ℕ) → get_or f i 0 < 256) → x ≡ f
    → r ≡ from_le_bytes w64 (put_mid 0 (length f) (0 ∷ 0 ∷ 0 ∷ 0 ∷ 0 ∷ 0 ∷ 0 ∷ 0 ∷ []) x) → r ≡ value (bits f)
word_is f x h o ex e =
    let k : ℕ = 8 - length f in
    let g : List ℕ = f ++ replicate k 0 in
    let eg : put_mid 0 (length f) (replicate 8 0) x ≡ g = rw (ex, drop-replicate {X = ℕ} (length f) 8 0) in
    let lg : length g ≡ 8 = length-append f (replicate k 0) ∙ omega (arith, length-replicate {A = ℕ} k 0) in
    let og : (i : ℕ) → get_or g i 0 < 256 = octet_append f k o in
    e ∙ ap (from_le_bytes w64) eg ∙ le_bytes_is g lg og
    ∙ ap value (bits_append f (replicate k 0)) ∙ value_append (bits f) (bits (replicate k 0))
    ∙ ap (λ (v : ℕ). value (bits f) + v * 2 ^ length (bits f)) (zeros_none k) ∙ omega (arith, zero-mul (2 ^ length (bits f)))

-- one octet more, from the last on
pub made_more : (s : List ℕ) (k w a : ℕ) → 0 < k → k ≤ length s → w ≡ value (bits (drop k s)) → a ≡ get_or s (k - 1) 0 → a < 256
    → w * 256 + a ≡ value (bits (drop (k - 1) s))
made_more s k w a p h e q f =
    let n : suc (k - 1) ≡ k = omega arith in
    rw (drop-cons s (k - 1) 0 (omega arith), n, ← q, value_octet a (drop k s) f, e) (omega arith)

-- of fewer than seven octets
pub few_lt : (s : List ℕ) (k : ℕ) → length s < k + 7 → value (bits (drop k s)) < 2 ^ 48
few_lt s k h =
    let n : length (bits (drop k s)) ≤ 48 = omega (arith, length_bits (drop k s), length-drop k s) in
    lt_of_lt_of_le (value_lt (bits (drop k s))) (pow_mono n)

-- ---- a part of a part

pub drop_take : {A : Type 0} (i m : ℕ) (l : List A) → drop i (take m l) ≡ take (m - i) (drop i l)
drop_take zero m l = rw (sub-zero m)
drop_take (suc i) zero l = rw (zero-sub (suc i))
drop_take (suc i) (suc m) [] = sym (take-nil (suc m - suc i))
drop_take (suc i) (suc m) (x ∷ l) = drop_take i m l ∙ rw (suc-sub-suc m i)

pub take_take_min : {A : Type 0} (m n : ℕ) (l : List A) → take m (take n l) ≡ take (min m n) l
take_take_min zero n l = rw (zero-min n)
take_take_min (suc m) zero l = rw (min-zero (suc m))
take_take_min (suc m) (suc n) [] = sym (take-nil (min (suc m) (suc n)))
take_take_min (suc m) (suc n) (x ∷ l) = rw (suc-min-suc m n, take_take_min m n l)

-- what is cut off behind n bits leaves them as they are
pub cut : (k n m : ℕ) (bs : List Bool) → k + n ≤ m → take n (drop k (take m bs)) ≡ take n (drop k bs)
cut k n m bs h = ap (take n) (drop_take k m bs) ∙ take-take n (m - k) (drop k bs) (omega arith)

-- ---- a window

-- a shift that stays within a word
pub shifted : (n : ℕ) → n < 64 → 1 * 2 ^ n % 18446744073709551616 ≡ 2 ^ n
shifted n h = shl_exact 1 n 64 (lit< tt) (omega arith) ∙ one-mul (2 ^ n)

pub window_is : (s : List ℕ) (i n w : ℕ) → n ≤ 56 → Made 8 s (i / 8) w
    → bit_and (w / 2 ^ (i % 8)) (1 * 2 ^ n % 18446744073709551616 - 1) ≡ value (take n (drop i (bits s)))
window_is s i n w h e =
    let j : ℕ = i / 8 in
    let k : ℕ = i % 8 in
    let f : List ℕ = take 8 (drop j s) in
    let place : 8 * j + k ≡ i = omega arith in
    rw (shifted n (omega arith), and_mask (w / 2 ^ k) n, e, ← value_drop k (bits f), ← value_take n (drop k (bits f)))
    (ap value
    (ap (λ (l : List Bool). take n (drop k l)) (sym (bits_take 8 (drop j s))) ∙ cut k n 64 (bits (drop j s)) (omega arith)
    ∙ ap (take n) (ap (drop k) (sym (bits_drop j s)) ∙ drop-drop k (8 * j) (bits s) ∙ ap (λ (m : ℕ). drop m (bits s)) place)))

-- ---- octets that are stored

-- a part with the lowest j of k octets of a word at its front
abbrev pub stored : List ℕ → ℕ → ℕ → ℕ → List ℕ
stored part word k j = take j (octets_of k (lowest 64 word)) ++ drop j part

pub stored_more : (part : List ℕ) (word k j : ℕ) → length part ≡ k → word < 2 ^ 64 → j < k
    → set (stored part word k j) j (word / 256 ^ j % 256) ≡ stored part word k (j + 1)
stored_more part word k j room fits h =
    let bs = lowest 64 word in
    let e : get_or (octets_of k bs) j 0 ≡ word / 256 ^ j % 256 = get_or_octets k j bs h ∙ ap (λ (x : ℕ). x / 256 ^ j % 256) (value_lowest 64 word fits) in
    rw (add-one j, ← e) (simp zero-add at (paste-suc part 0 (octets_of k bs) j 0 (omega arith) (omega (arith, length_octets k bs))))

-- all of them, in their part of out
pub stored_all : (out part items : List ℕ) (at word k j : ℕ) → at + k ≤ length out → length part ≡ k → k ≤ j → items ≡ stored part word k j
    → put_mid at (at + k - at) out items ≡ take at out ++ octets_of k (lowest 64 word) ++ drop (at + k) out
stored_all out part items at word k j room lp h e =
    let whole : items ≡ octets_of k (lowest 64 word) =
    e ∙ rw (take_all j (octets_of k (lowest 64 word)) (omega (arith, length_octets k (lowest 64 word))), drop_of_length-le part {i = j} (omega arith), append-nil) in
    let n : at + k - at ≡ k = omega arith in
    rw (whole, n, drop-drop k at out) (sym (append_assoc (take at out) (octets_of k (lowest 64 word)) (drop (at + k) out)))

pub rest_more : (word j : ℕ) → word / 256 ^ j / 256 ≡ word / 256 ^ (j + 1)
rest_more word j = rw (add-one j, pow-suc 256 j) (div-div-eq-div-mul word (256 ^ j) 256)

-- what is stored and what is left are the bits of the word
pub poured : (k m word : ℕ) → 8 * k ≤ 64 → bits (octets_of k (lowest 64 word)) ++ lowest m (word / 256 ^ k) ≡ lowest (8 * k + m) word
poured k m word h =
    ap₂ ◌++◌ (bits_of_octets k (lowest 64 word) (rw (length_lowest 64 word) h) ∙ lowest_take (8 * k) 64 word h)
    (ap (λ (x : ℕ). lowest m (word / x)) (power_octets k))
    ∙ sym (lowest_split (8 * k) m word)
