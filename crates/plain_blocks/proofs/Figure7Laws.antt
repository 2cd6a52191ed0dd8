-- The loops over a voice field: what has been picked or read so far, and the next of it.
use Prim.Native.Nat.{ℕ, zero, suc, ◌+◌, ◌-◌, ◌*◌, ◌/◌, ◌%◌, ◌^◌, ◌<◌}
use mathlib.Core.Path.{◌≡◌, refl, ap, ap₂, ◌∙◌}
use mathlib.Core.List.{List, [], ◌∷◌, ◌++◌}
use native.Mathlib.Nat.{pow-suc}
use native.Mathlib.Numerals.{add-one}
use native.Mathlib.Omega.{arith}
use lib.ListN.{length, get_or, length-append}
use Rattle.octets.specs.Octets.{tab}
use Rattle.octets.proofs.TabLaws.{length_tab, tab_ext}
use Rattle.plain_check.specs.Bits.{bit, number}
use Rattle.plain_check.proofs.BitLaws.{binary_tab, number_below}
use Rattle.plain_blocks.specs.Figure7.{nth, picked_octet, picked_block, picked_blocks, read_bit, from_highest, read_word}

-- bit k + 1 of octet j + 1, as the loop picks it
abbrev pub picked_bit : ℕ → List ℕ → ℕ → ℕ → ℕ → ℕ
picked_bit S xs b j k = bit (S - b) (nth (8 * (j + 1 - 1) + (k + 1)) xs)

pub eight_below : (S : ℕ) (xs : List ℕ) (b j : ℕ) → number (tab (picked_bit S xs b j) 8) < 256
eight_below S xs b j =
    let f = picked_bit S xs b j in
    let h : number (tab f 8) < 2 ^ length (tab f 8) = number_below (tab f 8) (binary_tab f (λ i. omega arith) 8) in
    let e : length (tab f 8) ≡ 8 = length_tab f 8 in
    omega (arith, rw e at h)

pub block_length : (S : ℕ) (xs : List ℕ) (b : ℕ) → length (picked_block S xs b) ≡ 16
unfolding picked_block
block_length S xs b = length_tab (λ i. picked_octet S xs b (i + 1)) 16

pub blocks_length : (S : ℕ) (xs : List ℕ) (n : ℕ) → length (picked_blocks S xs n) ≡ 16 * n
unfolding picked_blocks
blocks_length S xs zero = refl
blocks_length S xs (suc n) = length-append (picked_blocks S xs n) (picked_block S xs n) ∙ omega (arith, blocks_length S xs n, block_length S xs n)

pub blocks_none : (S : ℕ) (xs : List ℕ) → picked_blocks S xs 0 ≡ []
unfolding picked_blocks
blocks_none S xs = refl

pub blocks_more : (S : ℕ) (xs : List ℕ) (n : ℕ) → picked_blocks S xs n ++ picked_block S xs n ≡ picked_blocks S xs (n + 1)
unfolding picked_blocks
blocks_more S xs n = rw (add-one n) refl

-- reading
highest_append : (l m : List ℕ) (x : ℕ) → from_highest (l ++ m) x ≡ from_highest m (from_highest l x)
unfolding from_highest
highest_append [] m x = refl
highest_append (b ∷ l) m x = highest_append l m _

pub last_bit : (l : List ℕ) (b : ℕ) → from_highest (l ++ b ∷ []) 0 ≡ 2 * from_highest l 0 + b
unfolding from_highest
last_bit l b = highest_append l (b ∷ []) 0

pub word_none : (v : List ℕ) (n : ℕ) → read_word v 0 n ≡ 0
unfolding read_word tab from_highest
word_none v n = refl

pub word_more : (v : List ℕ) (k n : ℕ) → read_word v (suc k) n ≡ 2 * read_word v k n + read_bit v n k
unfolding read_word tab
word_more v k n = last_bit (tab (read_bit v n) k) (read_bit v n k)

pub word_below : (v : List ℕ) (k n : ℕ) → read_word v k n < 2 ^ k
unfolding read_bit
word_below v zero n = omega (arith, word_none v n)
word_below v (suc k) n = omega (arith, word_more v k n, word_below v k n, pow-suc 2 k)

-- counted from 0, as the code does
pub bit_at : (v : List ℕ) (i b : ℕ) → bit (1 + i % 8) (get_or v (16 * b + i / 8) 0) ≡ read_bit v (i + 1) b
unfolding read_bit
bit_at v i b = ap₂ (λ (k n : ℕ). bit (1 + k % 8) (get_or v n 0)) (omega arith) (omega arith)

pub picked_at : (S : ℕ) (xs : List ℕ) (b j k : ℕ) → bit (S - b) (get_or xs (8 * j + k) 0) ≡ picked_bit S xs b j k
picked_at S xs b j k = ap (λ (n : ℕ). bit (S - b) (get_or xs n 0)) (omega arith)

pub octet_bits : (S : ℕ) (xs : List ℕ) (b j : ℕ) → tab (λ k. bit (S - b) (get_or xs (8 * j + k) 0)) 8 ≡ tab (picked_bit S xs b j) 8
octet_bits S xs b j = tab_ext _ _ 8 (λ k h. picked_at S xs b j k)
