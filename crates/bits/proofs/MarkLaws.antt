-- Marks of a test, as a number: what is done with the numbers is done with the tests, at each place.
use Prim.Native.Nat.{ℕ, zero, suc, ◌+◌, ◌-◌, ◌*◌, ◌/◌, ◌%◌, ◌^◌, ◌<◌, min, max}
use mathlib.Core.Path.{◌≡◌, refl, sym, ap, ap₂, ◌∙◌}
use mathlib.Core.Bool.{Bool, true, false, ◌&&◌, ◌||◌, not, cond, beq, and_assoc}
use mathlib.Core.List.{List, [], ◌∷◌, ◌++◌}
use native.Mathlib.Nat.{pow-suc}
use native.Mathlib.Numerals.{add-one}
use native.Mathlib.Omega.{arith}
use lib.Bits.{bit_and, bit_or, bit_xor, differ, and_step, or_step, xor_step}
use lib.Count.{count_trailing_zeros}
use lib.ListN.{length, drop, replicate}
use lib.Seq.{drop-nil, drop-drop}
use Rattle.bits.specs.Bits.{lowest, value}
use Rattle.bits.specs.Marks.{marks}
use Rattle.bits.specs.Places.{begins, until}
use Rattle.bits.proofs.BitLaws.{half, odd, value_drop, value_lowest, length_lowest}

-- m has a one for each place where the test holds
pub record Marked (bs : List Bool) (test : List Bool → Bool) (m : ℕ) : Type 0 where
  pub is : m ≡ value (marks test bs)

-- ---- digit by digit

-- an operation that goes by d on two digits, and d by t on two bits
module _ (op d : ℕ → ℕ → ℕ) (t : Bool → Bool → Bool) (step : (a b : ℕ) → op a b ≡ op (a / 2) (b / 2) * 2 + d (a % 2) (b % 2)) (none : op 0 0 ≡ 0)
    (d00 : d 0 0 ≡ cond (t false false) 1 0) (d01 : d 0 1 ≡ cond (t false true) 1 0)
    (d10 : d 1 0 ≡ cond (t true false) 1 0) (d11 : d 1 1 ≡ cond (t true true) 1 0) where
  digit : (x y : Bool) → d (cond x 1 0) (cond y 1 0) ≡ cond (t x y) 1 0
  digit false false = d00
  digit false true = d01
  digit true false = d10
  digit true true = d11

  marks_op : (f g : List Bool → Bool) (bs : List Bool) → op (value (marks f bs)) (value (marks g bs)) ≡ value (marks (λ l. t (f l) (g l)) bs)
  unfolding marks value
  marks_op f g [] = none
  marks_op f g (b ∷ bs) =
      let x : Bool = f (b ∷ bs) in
      let y : Bool = g (b ∷ bs) in
      let u : ℕ = value (marks f bs) in
      let v : ℕ = value (marks g bs) in
      step (cond x 1 0 + 2 * u) (cond y 1 0 + 2 * v)
      ∙ rw (half x u, half y v, odd x u, odd y v, digit x y, marks_op f g bs) (omega arith)

module _ {bs : List Bool} {f g : List Bool → Bool} {a b : ℕ} where
  pub both : Marked bs f a → Marked bs g b → Marked bs (λ l. f l && g l) (bit_and a b)
  both m n = record { is = ap₂ bit_and m.is n.is ∙ marks_op bit_and min ◌&&◌ and_step refl refl refl refl refl f g bs }

  pub either : Marked bs f a → Marked bs g b → Marked bs (λ l. f l || g l) (bit_or a b)
  either m n = record { is = ap₂ bit_or m.is n.is ∙ marks_op bit_or max ◌||◌ or_step refl refl refl refl refl f g bs }

  pub unlike : Marked bs f a → Marked bs g b → Marked bs (λ l. not (beq (f l) (g l))) (bit_xor a b)
  unlike m n =
      record { is = ap₂ bit_xor m.is n.is ∙ marks_op bit_xor differ (λ x y. not (beq x y)) xor_step refl refl refl refl refl f g bs }

-- ---- the same test, and a test of what stands later

marks_same : (f g : List Bool → Bool) → ((l : List Bool) → f l ≡ g l) → (bs : List Bool) → marks f bs ≡ marks g bs
unfolding marks
marks_same f g h [] = refl
marks_same f g h (b ∷ bs) = ap₂ {C = List Bool} (λ x l. x ∷ l) (h (b ∷ bs)) (marks_same f g h bs)

pub same : {bs : List Bool} {f g : List Bool → Bool} {a : ℕ} → ((l : List Bool) → f l ≡ g l) → Marked bs f a → Marked bs g a
same {bs} {f} {g} h m = record { is = m.is ∙ ap value (marks_same f g h bs) }

marks_drop : (f : List Bool → Bool) (k : ℕ) (bs : List Bool) → drop k (marks f bs) ≡ marks f (drop k bs)
unfolding marks
marks_drop f zero bs = refl
marks_drop f (suc k) [] = refl
marks_drop f (suc k) (b ∷ bs) = marks_drop f k bs

-- a test that holds of no empty rest has no marks past the end
module _ (f : List Bool → Bool) (nil : f [] ≡ false) where
  first : (bs : List Bool) → value (marks f bs) ≡ cond (f bs) 1 0 + 2 * value (marks f (drop 1 bs))
  unfolding marks value
  first [] = rw nil
  first (b ∷ bs) = refl

  marks_later : (k : ℕ) (bs : List Bool) → value (marks f (drop k bs)) ≡ value (marks (λ l. f (drop k l)) bs)
  unfolding marks value
  marks_later k [] = rw (drop-nil {A = Bool} k)
  marks_later zero (b ∷ bs) = refl
  marks_later (suc k) (b ∷ bs) =
      first (drop k bs) ∙ ap (λ (v : ℕ). cond (f (drop k bs)) 1 0 + 2 * v) (rw (drop-drop 1 k bs, add-one k) (marks_later (suc k) bs))

pub later : {bs : List Bool} {f : List Bool → Bool} {a : ℕ} (k : ℕ) → f [] ≡ false → Marked bs f a → Marked bs (λ l. f (drop k l)) (a / 2 ^ k)
later {bs} {f} k nil m =
    record { is = ap (λ (x : ℕ). x / 2 ^ k) m.is ∙ sym (value_drop k (marks f bs)) ∙ ap value (marks_drop f k bs) ∙ marks_later f nil k bs }

-- ---- what the bits begin with

begins_append : (p q l : List Bool) → (begins p l && begins q (drop (length p) l)) ≡ begins (p ++ q) l
unfolding begins
begins_append [] q l = refl
begins_append (a ∷ p) q [] = refl
begins_append (a ∷ p) q (b ∷ l) = and_assoc (beq a b) (begins p l) (begins q (drop (length p) l)) ∙ ap (◌&&◌ (beq a b)) (begins_append p q l)

-- p, and behind it c and q
pub join : {bs : List Bool} {a b : ℕ} (p : List Bool) (c : Bool) (q : List Bool) → Marked bs (begins p) a → Marked bs (begins (c ∷ q)) b
    → Marked bs (begins (p ++ c ∷ q)) (bit_and a (b / 2 ^ length p))
unfolding begins
join p c q m n = same (begins_append p (c ∷ q)) (both m (later (length p) refl n))

ones_value : (bs : List Bool) → value bs ≡ value (marks (begins (true ∷ [])) bs)
unfolding marks value begins
ones_value [] = refl
ones_value (true ∷ bs) = rw (← ones_value bs)
ones_value (false ∷ bs) = rw (← ones_value bs)

zeros_value : (bs : List Bool) → suc (value (marks (begins (false ∷ [])) bs) + value bs) ≡ 2 ^ length bs
unfolding marks value begins
zeros_value [] = refl
zeros_value (true ∷ bs) = omega (arith, zeros_value bs, pow-suc 2 (length bs))
zeros_value (false ∷ bs) = omega (arith, zeros_value bs, pow-suc 2 (length bs))

-- ---- masks of runs in the bits of a word

abbrev pub ones : ℕ → List Bool
ones n = replicate n true

abbrev pub two : ℕ → ℕ
two w = bit_and w (w / 2 ^ 1)

abbrev pub four : ℕ → ℕ
four w = bit_and (two w) (two w / 2 ^ 2)

module _ (n w : ℕ) (fits : w < 2 ^ n) where
  pub one_marked : Marked (lowest n w) (begins (ones 1)) w
  one_marked = record { is = sym (value_lowest n w fits) ∙ ones_value (lowest n w) }

  pub two_marked : Marked (lowest n w) (begins (ones 2)) (two w)
  two_marked = join (ones 1) true (ones 0) one_marked one_marked

  pub four_marked : Marked (lowest n w) (begins (ones 4)) (four w)
  four_marked = join (ones 2) true (ones 1) two_marked two_marked

  pub zero_marked : (zeros : ℕ) → zeros ≡ 2 ^ n - 1 - w → Marked (lowest n w) (begins (false ∷ [])) zeros
  zero_marked zeros rest =
      let all : suc (value (marks (begins (false ∷ [])) (lowest n w)) + value (lowest n w)) ≡ 2 ^ n = zeros_value (lowest n w) ∙ ap (λ (k : ℕ). 2 ^ k) (length_lowest n w) in
      record { is = omega (arith, value_lowest n w fits) }

-- ---- the lowest one of a mask is where the test first holds

pub trailing_step : (k : ℕ) (b : Bool) (v : ℕ) → count_trailing_zeros (suc k) (cond b 1 0 + 2 * v) ≡ cond b 0 (suc (count_trailing_zeros k v))
unfolding count_trailing_zeros
trailing_step k true v = rw (odd true v)
trailing_step k false v = rw (odd false v, half false v)

trailing_until : (test : List Bool → Bool) (bs : List Bool) → count_trailing_zeros (length bs) (value (marks test bs)) ≡ until test bs
unfolding marks value until count_trailing_zeros
trailing_until test [] = refl
trailing_until test (b ∷ bs) =
    trailing_step (length bs) (test (b ∷ bs)) (value (marks test bs))
    ∙ ap (λ (n : ℕ). cond (test (b ∷ bs)) 0 (suc n)) (trailing_until test bs)

pub first_marked : (n w m : ℕ) (test : List Bool → Bool) → Marked (lowest n w) test m → count_trailing_zeros n m ≡ until test (lowest n w)
first_marked n w m test h = ap₂ count_trailing_zeros (sym (length_lowest n w)) h.is ∙ trailing_until test (lowest n w)
