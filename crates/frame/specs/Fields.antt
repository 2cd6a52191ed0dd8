-- Document 01, "Frame layout": the fields of a frame. Octets are counted from 1, and bit 1 is the lowest bit of an octet.
use Rattle.std.specs.Prelude.{ℕ, ◌+◌, ◌-◌, ◌*◌, ◌/◌, ◌%◌, Bool, cond, List, eqb, length}
use Rattle.octets.specs.Octets.{octet}

-- the upper six bits in octet 1, the lower seven in octet 2
abbrev pub address : List ℕ → ℕ
address f = octet 1 f / 4 * 128 + octet 2 f / 2

-- bit 2 of octet 1 is C/R
abbrev pub command_bit : List ℕ → ℕ
command_bit f = octet 1 f / 2 % 2

-- bit 5 of octet 3 is the poll bit
abbrev pub poll_bit : List ℕ → ℕ
poll_bit f = octet 3 f / 16 % 2

-- octet 3, poll bit aside
abbrev pub control : List ℕ → ℕ
control f = octet 3 f / 32 * 32 + octet 3 f % 16

-- voice (UIH) is 239, signalling (UI) 3
abbrev pub is_voice : List ℕ → Bool
is_voice f = eqb (control f) 239

-- dropping: bits 5, 6 are M, bits 1, 2 are C
abbrev pub field_m : List ℕ → ℕ
field_m f = octet 5 f / 16 % 4

abbrev pub field_c : List ℕ → ℕ
field_c f = octet 5 f % 4

-- time stamp, ms
abbrev pub stamp : List ℕ → ℕ
stamp f = octet 6 f

-- voice: bit 8 of octet 7 is the more bit, bits 1 to 5 are the coding type
abbrev pub more_bit : List ℕ → ℕ
more_bit f = octet 7 f / 128 % 2

abbrev pub coding : List ℕ → ℕ
coding f = octet 7 f % 32

-- voice: bits 5 to 8 of octet 8 are the sequence, bits 1 to 4 the noise
abbrev pub sequence : List ℕ → ℕ
sequence f = octet 8 f / 16 % 16

abbrev pub noise : List ℕ → ℕ
noise f = octet 8 f % 16

-- signalling: bit 1 of octet 7 is N/A, and A, B, C, D are bits 4, 3, 2, 1 of octet 8
abbrev pub na : List ℕ → ℕ
na f = octet 7 f % 2

abbrev pub signal_bits : List ℕ → ℕ
signal_bits f = octet 8 f % 16

-- what the check sequence covers: octets 1 to 8 of voice, everything before it of signalling
abbrev pub covered : List ℕ → ℕ
covered f = cond (is_voice f) 8 (length f - 2)
