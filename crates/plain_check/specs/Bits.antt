-- G.764, section 3.1.2, and document 01, "Frame layout": the bits of an octet are counted from 1, and bit 1, the lowest, is sent first.
use Rattle.std.specs.Prelude.{ℕ, ◌+◌, ◌-◌, ◌*◌, ◌/◌, ◌%◌, ◌^◌, List, [], ◌∷◌}
use Rattle.octets.specs.Octets.{tab}

-- bit k of x
abbrev pub bit : ℕ → ℕ → ℕ
bit k x = x / 2 ^ (k - 1) % 2

-- bits 1 to 8 of an octet
unfoldable pub octet_bits : ℕ → List ℕ
octet_bits x = tab (λ i. bit (i + 1) x) 8

-- the number whose bits these are, the lowest first
unfoldable pub number : List ℕ → ℕ
number [] = 0
number (b ∷ bits) = b + 2 * number bits
