-- G.764, Figure 7, and document 01, "Blocks": a block holds one bit of each of the 128 samples. It is picked, and read, one bit at a time.
-- Samples, octets and their bits are counted from 1, blocks from 0.
use Rattle.std.specs.Prelude.{ℕ, zero, suc, ◌+◌, ◌-◌, ◌*◌, ◌/◌, ◌%◌, List, [], ◌∷◌, ◌++◌, get_or}
use Rattle.octets.specs.Octets.{tab}
use Rattle.plain_check.specs.Bits.{bit, number}

-- sample n, or octet n
abbrev pub nth : ℕ → List ℕ → ℕ
nth n l = get_or l (n - 1) 0

-- octet j of block b: its bit k is bit S - b of sample 8 (j-1) + k
unfoldable pub picked_octet : ℕ → List ℕ → ℕ → ℕ → ℕ
picked_octet S samples b j = number (tab (λ i. bit (S - b) (nth (8 * (j - 1) + (i + 1)) samples)) 8)

-- block b: octets 1 to 16
unfoldable pub picked_block : ℕ → List ℕ → ℕ → List ℕ
picked_block S samples b = tab (λ i. picked_octet S samples b (i + 1)) 16

-- blocks 0 to n - 1
unfoldable pub picked_blocks : ℕ → List ℕ → ℕ → List ℕ
picked_blocks S samples zero = []
picked_blocks S samples (suc n) = picked_blocks S samples n ++ picked_block S samples n

-- the bit of sample n in block b: it stands in octet 1 + (n-1)/8 of the block, at bit 1 + (n-1) mod 8
unfoldable pub read_bit : List ℕ → ℕ → ℕ → ℕ
read_bit voice n b = bit (1 + (n - 1) % 8) (nth (16 * b + (1 + (n - 1) / 8)) voice)

-- bits as a number, the highest first
unfoldable pub from_highest : List ℕ → ℕ → ℕ
from_highest [] sofar = sofar
from_highest (b ∷ bits) sofar = from_highest bits (2 * sofar + b)

-- sample n as a word of the width that is left: a bit for each block present
unfoldable pub read_word : List ℕ → ℕ → ℕ → ℕ
read_word voice width n = from_highest (tab (read_bit voice n) width) 0

unfoldable pub read_words : List ℕ → ℕ → List ℕ
read_words voice width = tab (λ i. read_word voice width (i + 1)) 128
