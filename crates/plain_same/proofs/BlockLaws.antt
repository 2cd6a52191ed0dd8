-- A bit picked is a bit packed, and a bit read is the bit that stands there.
use Prim.Native.Nat.{ℕ, zero, suc, ◌+◌, ◌-◌, ◌*◌, ◌/◌, ◌%◌, ◌^◌, ◌≤◌}
use mathlib.Core.Path.{◌≡◌, refl, sym, ap, ap₂, ◌∙◌}
use mathlib.Core.List.{List, [], ◌∷◌, ◌++◌}
use native.Mathlib.Nat.{pow-suc, mul-one, mul_assoc, zero-mul, add-mul}
use native.Mathlib.Omega.{arith}
use lib.ListN.{length, get_or}
use Rattle.octets.specs.Octets.{tab}
use Rattle.octets.proofs.TabLaws.{length_tab, tab_ext}
use Rattle.blocks.specs.Blocks.{bit_of, gather, block_octet, block, weight, field, sample, samples}
use Rattle.plain_check.specs.Bits.{number}
use Rattle.plain_blocks.specs.Figure7.{picked_octet, picked_block, picked_blocks, read_bit, read_word, read_words}
use Rattle.plain_blocks.proofs.Figure7Laws.{picked_bit, bit_at, word_none, word_more}

-- one bit more, above those that a number has
number_more : (l : List ℕ) (b : ℕ) → number (l ++ b ∷ []) ≡ b * 2 ^ length l + number l
unfolding number
number_more [] b = ap (λ (y : ℕ). y + 0) (sym (mul-one b))
number_more (x ∷ l) b =
    ap (λ (y : ℕ). x + 2 * y) (number_more l b)
    ∙ place x (b * 2 ^ length l) (number l)
    ∙ ap (λ (y : ℕ). y + (x + 2 * number l)) (mul_assoc b (2 ^ length l) 2 ∙ ap (λ (y : ℕ). b * y) (sym (pow-suc 2 (length l))))
  where
    place : (x y z : ℕ) → x + 2 * (y + z) ≡ y * 2 + (x + 2 * z)
    place x y z = omega arith

same_bit : (S : ℕ) (xs : List ℕ) (b j k : ℕ) → picked_bit S xs b j k ≡ bit_of (get_or xs (8 * j + k) 0) (weight S b)
same_bit S xs b j k = ap₂ (λ (w n : ℕ). get_or xs n 0 / 2 ^ w % 2) (omega arith) (omega arith)

-- the first k bits of an octet, as a number
gathered : (S : ℕ) (xs : List ℕ) (b j k : ℕ) → number (tab (picked_bit S xs b j) k) ≡ gather xs (weight S b) (8 * j) k
unfolding tab number gather
gathered S xs b j zero = refl
gathered S xs b j (suc k) =
    let f = picked_bit S xs b j in
    number_more (tab f k) (f k)
    ∙ ap₂ (λ (n m : ℕ). f k * 2 ^ n + m) (length_tab f k) (gathered S xs b j k)
    ∙ ap (λ (y : ℕ). y * 2 ^ k + gather xs (weight S b) (8 * j) k) (same_bit S xs b j k)

picked_octet_lem : (S : ℕ) (xs : List ℕ) (b j : ℕ) → picked_octet S xs b (j + 1) ≡ block_octet xs (weight S b) j
unfolding picked_octet block_octet
picked_octet_lem S xs b j = gathered S xs b j 8

pub picked_block_lem : (S : ℕ) (xs : List ℕ) (b : ℕ) → picked_block S xs b ≡ block xs (weight S b)
unfolding picked_block block
picked_block_lem S xs b = tab_ext (λ i. picked_octet S xs b (i + 1)) (block_octet xs (weight S b)) 16 (λ i _. picked_octet_lem S xs b i)

pub picked_blocks_lem : (S : ℕ) (xs : List ℕ) (n : ℕ) → picked_blocks S xs n ≡ field xs S n
unfolding picked_blocks field
picked_blocks_lem S xs zero = refl
picked_blocks_lem S xs (suc n) = ap₂ (λ (x y : List ℕ). x ++ y) (picked_blocks_lem S xs n) (picked_block_lem S xs n)

-- one bit more, at half the weight
half_weight : (x b m : ℕ) → x * 2 ^ suc m + b * 2 ^ m ≡ (2 * x + b) * 2 ^ m
half_weight x b m =
    ap (λ (y : ℕ). y + b * 2 ^ m)
    (ap (λ (y : ℕ). x * y) (omega (arith, pow-suc 2 m)) ∙ sym (mul_assoc x 2 (2 ^ m)) ∙ ap (λ (y : ℕ). y * 2 ^ m) (omega arith))
    ∙ sym (add-mul (2 * x) b (2 ^ m))

read_bit_lem : (v : List ℕ) (i b : ℕ) → bit_of (get_or v (16 * b + i / 8) 0) (i % 8) ≡ read_bit v (i + 1) b
read_bit_lem v i b = ap (λ (w : ℕ). bit_of (get_or v (16 * b + i / 8) 0) w) (omega arith) ∙ bit_at v i b

-- the first k blocks of a field of words of S bits
word_so_far : (S : ℕ) (v : List ℕ) (k i : ℕ) → k ≤ S → sample v S k i ≡ read_word v k (i + 1) * 2 ^ (S - k)
unfolding sample
word_so_far S v zero i h = sym (ap (λ (y : ℕ). y * 2 ^ (S - 0)) (word_none v (i + 1)) ∙ zero-mul (2 ^ (S - 0)))
word_so_far S v (suc k) i h =
    let m = S - suc k in
    let e : S - k ≡ suc m = omega arith in
    let w : S - 1 - k ≡ m = omega arith in
    ap₂ (λ (x y : ℕ). x + y)
    (word_so_far S v k i (omega arith) ∙ ap (λ (y : ℕ). read_word v k (i + 1) * 2 ^ y) e)
    (ap₂ (λ (x y : ℕ). x * 2 ^ y) (read_bit_lem v i k) w)
    ∙ half_weight (read_word v k (i + 1)) (read_bit v (i + 1) k) m
    ∙ ap (λ (x : ℕ). x * 2 ^ m) (sym (word_more v k (i + 1)))

-- a word of the width that is left is the quick reader's
pub read_words_lem : (v : List ℕ) (width : ℕ) → read_words v width ≡ samples v width width
unfolding read_words samples
read_words_lem v width = tab_ext (λ i. read_word v width (i + 1)) (sample v width width) 128 (λ i _. sym (whole i))
  where
    one : (n x : ℕ) → n ≡ 0 → x * 2 ^ n ≡ x
    one n x e = ap (λ (m : ℕ). x * 2 ^ m) e ∙ mul-one x

    whole : (i : ℕ) → sample v width width i ≡ read_word v width (i + 1)
    whole i = word_so_far width v width i (omega arith) ∙ one (width - width) (read_word v width (i + 1)) (omega arith)
