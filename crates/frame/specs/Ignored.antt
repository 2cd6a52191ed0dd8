-- Document 01, "Frame layout", as request A5 leaves it: what a reader ignores and a node passes on as it came, the reserved bits and the more bit and sequence of a signalling frame.
-- Theorems go by it; no call's promise cites what stands here.
use Rattle.std.specs.Prelude.{ℕ, ◌+◌, ◌-◌, ◌*◌, ◌/◌, ◌%◌, cond, List, ◌∷◌, ◌++◌, length, take, drop}
use Rattle.octets.specs.Octets.{octet}
use Rattle.fcs.specs.Fcs.{fcs_octets}
use Rattle.frame.specs.Fields.{is_voice, field_m, field_c, more_bit, coding, na, signal_bits, covered}

-- octet 5 of f with the reserved bits of g: 3, 4, 7 and 8
abbrev pub octet5_with : List ℕ → List ℕ → ℕ
octet5_with g f = octet 5 g / 64 % 4 * 64 + field_m f * 16 + octet 5 g / 4 % 4 * 4 + field_c f

-- octet 7: of voice bits 6 and 7; of signalling the more bit and all others but N/A
abbrev pub octet7_with : List ℕ → List ℕ → ℕ
octet7_with g f = cond (is_voice f) (more_bit f * 128 + octet 7 g / 32 % 4 * 32 + coding f) (octet 7 g / 2 % 128 * 2 + na f)

-- octet 8: of signalling the sequence
abbrev pub octet8_with : List ℕ → List ℕ → ℕ
octet8_with g f = cond (is_voice f) (octet 8 f) (octet 8 g / 16 % 16 * 16 + signal_bits f)

-- f up to its check, with those bits of g
unfoldable pub ignored_from : List ℕ → List ℕ → List ℕ
ignored_from g f =
    octet 1 f
    ∷ octet 2 f
    ∷ octet 3 f
    ∷ octet 4 f
    ∷ octet5_with g f
    ∷ octet 6 f
    ∷ octet7_with g f
    ∷ octet8_with g f
    ∷ take (length f - 10) (drop 8 f)

-- and its check made afresh
unfoldable pub with_ignored : List ℕ → List ℕ → List ℕ
with_ignored g f = ignored_from g f ++ fcs_octets (take (covered f) (ignored_from g f))
