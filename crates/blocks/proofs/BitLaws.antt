-- The bits of a number: of an xor, an and, a shift; that a number has nothing but its bits; and two octets that exchange bits. Assumes nothing.
use mathlib.Core.Path.{◌≡◌, sym, ap, ◌∙◌}
use mathlib.Core.Bool.{cond}
use Prim.Native.Nat.{ℕ, zero, suc, ◌+◌, ◌-◌, ◌*◌, ◌/◌, ◌%◌, ◌^◌, ◌<◌}
use native.Mathlib.Nat.{le_refl, mod-lt, mod-eq_of_lt, pow-suc, mul_assoc, mul_comm, div-eq_of_lt, add-div_right, mod-one, eq-zero-or-pos}
use native.Mathlib.Omega.{arith}
use borrow.Author.Tests.{eq-eqb, ne_eqb}
use mathlib.Core.Logic.{⊎_elim}
use lib.Dec.{lit<, eqb}
use lib.Bits.{bit_and, bit_xor, and_shr, and_mod, xor_shr, xor_mod, xor_lt, xor_comm, xor_self, xor_zero_l, xor_zero_r, and_mask, and_zero_r}
use lib.Pow.{pow-add, shr-shr, shl-shr, mod-pow-add, mod-mod-pow, field as pow-field}
use Rattle.octets.proofs.XorLaws.{xor_assoc}
use Rattle.blocks.specs.Blocks.{bit_of}

pub bit_lt : (x w : ℕ) → bit_of x w < 2
bit_lt x w = mod-lt (x / 2 ^ w) (lit< tt)

-- ---- of an xor, an and, a shift

bit_xor_lem : (a b p : ℕ) → bit_of (bit_xor a b) p ≡ bit_xor (bit_of a p) (bit_of b p)
bit_xor_lem a b p = ap (λ (x : ℕ). x % 2) (xor_shr a b p) ∙ xor_mod (a / 2 ^ p) (b / 2 ^ p) 1

bit_and_lem : (a b p : ℕ) → bit_of (bit_and a b) p ≡ bit_and (bit_of a p) (bit_of b p)
bit_and_lem a b p = ap (λ (x : ℕ). x % 2) (and_shr a b p) ∙ and_mod (a / 2 ^ p) (b / 2 ^ p) 1

pub bit_down : (a d p : ℕ) → bit_of (a / 2 ^ d) p ≡ bit_of a (d + p)
bit_down a d p = ap (λ (x : ℕ). x % 2) (shr-shr a d p)

pub bit_up : (a d e : ℕ) → bit_of (a * 2 ^ d) (d + e) ≡ bit_of a e
bit_up a d e = sym (bit_down (a * 2 ^ d) d e) ∙ ap (λ (x : ℕ). bit_of x e) (shl-shr a d)

pub bit_below : (a d p : ℕ) → p < d → bit_of (a * 2 ^ d) p ≡ 0
bit_below a d p h =
    let e : d ≡ d - suc p + suc p = omega arith in
    let y : ℕ = a * 2 ^ (d - suc p) in
    let f : a * 2 ^ d ≡ y * 2 * 2 ^ p =
    ap (λ (n : ℕ). a * 2 ^ n) e ∙ ap (λ (n : ℕ). a * n) (pow-add 2 (d - suc p) (suc p)) ∙ sym (mul_assoc a (2 ^ (d - suc p)) (2 ^ suc p))
    ∙ ap (λ (n : ℕ). y * n) (pow-suc 2 p ∙ mul_comm (2 ^ p) 2) ∙ sym (mul_assoc y 2 (2 ^ p)) in
    rw (f, shl-shr (y * 2) p) (omega arith)

-- the lowest k bits stay where the rest is cut off
bit_mod : (n k p : ℕ) → p < k → bit_of (n % 2 ^ k) p ≡ bit_of n p
bit_mod n k p h =
    let e : k ≡ k - suc p + 1 + p = omega arith in
    ap (λ (x : ℕ). bit_of (n % 2 ^ x) p) e ∙ rw pow-field (mod-mod-pow (n / 2 ^ p) (k - suc p) 1)

-- ---- a number has nothing but its bits

bits_mod : (n x y : ℕ) → ((p : ℕ) → p < n → bit_of x p ≡ bit_of y p) → x % 2 ^ n ≡ y % 2 ^ n
bits_mod zero x y h = mod-one x ∙ sym (mod-one y)
bits_mod (suc n) x y h =
    let e : suc n ≡ 1 + n = omega arith in
    rw (e, mod-pow-add x 1 n, mod-pow-add y 1 n, bits_mod n x y (λ p l. h p (omega arith)))
    (ap (λ (b : ℕ). b * 2 ^ n + y % 2 ^ n) (h n (le_refl (suc n))))

pub bits_all : (n x y : ℕ) → x < 2 ^ n → y < 2 ^ n → ((p : ℕ) → p < n → bit_of x p ≡ bit_of y p) → x ≡ y
bits_all n x y hx hy h = sym (mod-eq_of_lt hx) ∙ bits_mod n x y h ∙ mod-eq_of_lt hy

-- ---- bit p + d of a and bit p of b exchanged, for each bit p of m

abbrev pub unlike_of : ℕ → ℕ → ℕ → ℕ → ℕ
unlike_of a b d m = bit_and (bit_xor (a / 2 ^ d) b) m

and_one : (x : ℕ) → x < 2 → bit_and x 1 ≡ x
and_one x h = and_mask x 1 ∙ mod-eq_of_lt h

unlike_on : (a b d m p : ℕ) → bit_of m p ≡ 1 → bit_of (unlike_of a b d m) p ≡ bit_xor (bit_of a (d + p)) (bit_of b p)
unlike_on a b d m p h =
    rw (bit_and_lem (bit_xor (a / 2 ^ d) b) m p, h, bit_xor_lem (a / 2 ^ d) b p, bit_down a d p)
    (and_one (bit_xor (bit_of a (d + p)) (bit_of b p)) (xor_lt 1 (bit_of a (d + p)) (bit_of b p) (bit_lt a (d + p)) (bit_lt b p)))

unlike_off : (a b d m p : ℕ) → bit_of m p ≡ 0 → bit_of (unlike_of a b d m) p ≡ 0
unlike_off a b d m p h = rw (bit_and_lem (bit_xor (a / 2 ^ d) b) m p, h) (and_zero_r (bit_of (bit_xor (a / 2 ^ d) b) p))

xor_twice : (x y : ℕ) → bit_xor x (bit_xor x y) ≡ y
xor_twice x y = sym (xor_assoc x x y) ∙ rw xor_self (xor_zero_l y)

-- the mask of d: the bits whose number has an even number of d's
abbrev pub Mask : ℕ → ℕ → Type 0
Mask d m = (p : ℕ) → p < 8 → bit_of m p ≡ 1 - p / d % 2

pub odd_is_one : (n : ℕ) → 0 < n % 2 → n % 2 ≡ 1
odd_is_one n h = omega (arith, mod-lt n {m = 2} (lit< tt))

-- what is d further is odd where this is even
next_odd : (d e : ℕ) → 0 < d → (d + e) / d % 2 ≡ 1 - e / d % 2
next_odd d e h =
    let c : d + e ≡ e + d = omega arith in
    rw (c, add-div_right e h) (omega arith)

module _ (a b d m p : ℕ) (hd : 0 < d) (on : Mask d m) (hp : p < 8) where
  abbrev t : ℕ
  t = unlike_of a b d m

  pub upper_bit : bit_of (bit_xor b t) p ≡ cond (eqb (p / d % 2) 0) (bit_of a (p + d)) (bit_of b p)
  upper_bit =
      ⊎_elim
      (λ z. let s : p + d ≡ d + p = omega arith in
      rw (eq-eqb (p / d % 2) 0 z, bit_xor_lem b t p, unlike_on a b d m p (on p hp ∙ rw z), s, xor_comm (bit_of a (d + p)) (bit_of b p)) (xor_twice (bit_of b p) (bit_of a (d + p))))
      (λ g. rw (ne_eqb (p / d % 2) 0 (λ e. omega arith), bit_xor_lem b t p, unlike_off a b d m p (on p hp ∙ rw (odd_is_one (p / d) g))) (xor_zero_r (bit_of b p)))
      (eq-zero-or-pos (p / d % 2))

  -- what comes up to p: nothing below d, and from d on the bit that is d below
  abbrev up : ℕ
  up = t * 2 ^ d % 2 ^ 8

  up_even : p / d % 2 ≡ 0 → bit_of up p ≡ 0
  up_even z =
      bit_mod (t * 2 ^ d) 8 p hp
      ∙ ⊎_elim
      (λ l. bit_below t d p (omega arith))
      (λ g. let e : p ≡ d + (p - d) = omega arith in
      ap (bit_of (t * 2 ^ d)) e ∙ bit_up t d (p - d)
      ∙ unlike_off a b d m (p - d) (on (p - d) (omega arith) ∙ omega (arith, sym (ap (λ (n : ℕ). n / d % 2) e) ∙ z, next_odd d (p - d) hd)))
      (eq-zero-or-pos (suc p - d))

  up_odd : p / d % 2 ≡ 1 → bit_of up p ≡ bit_xor (bit_of a p) (bit_of b (p - d))
  up_odd o =
      ⊎_elim
      (λ l. absurd (omega (arith, div-eq_of_lt {n = p} {m = d} (omega arith))))
      (λ g. let e : p ≡ d + (p - d) = omega arith in
      bit_mod (t * 2 ^ d) 8 p hp
      ∙ ap (bit_of (t * 2 ^ d)) e ∙ bit_up t d (p - d)
      ∙ unlike_on a b d m (p - d) (on (p - d) (omega arith) ∙ omega (arith, sym (ap (λ (n : ℕ). n / d % 2) e) ∙ o, next_odd d (p - d) hd))
      ∙ ap (λ (n : ℕ). bit_xor (bit_of a n) (bit_of b (p - d))) (sym e))
      (eq-zero-or-pos (suc p - d))

  pub lower_bit : bit_of (bit_xor a up) p ≡ cond (eqb (p / d % 2) 0) (bit_of a p) (bit_of b (p - d))
  lower_bit =
      ⊎_elim
      (λ z. rw (eq-eqb (p / d % 2) 0 z, bit_xor_lem a up p, up_even z) (xor_zero_r (bit_of a p)))
      (λ g. rw (ne_eqb (p / d % 2) 0 (λ e. omega arith), bit_xor_lem a up p, up_odd (odd_is_one (p / d) g)) (xor_twice (bit_of a p) (bit_of b (p - d))))
      (eq-zero-or-pos (p / d % 2))
