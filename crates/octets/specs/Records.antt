-- Document 01, "Examples", and request A8: what stands before a record of a stream or a tray, both two octets little-endian.
use Rattle.std.specs.Prelude.{ℕ, List}
use Rattle.octets.specs.Octets.{two}

-- the length, counting what follows
abbrev pub following : List ℕ → ℕ
following r = two 1 r

abbrev pub kind : List ℕ → ℕ
kind r = two 3 r
