-- Many readings of one line, over its bits: what the calls are shown to be.
use Prim.Native.Nat.{ℕ, zero, suc, ◌+◌, ◌≤◌}
use mathlib.Core.Path.{◌≡◌}
use mathlib.Core.Bool.{Bool}
use mathlib.Core.List.{List, [], ◌∷◌, ◌++◌, map}
use mathlib.Core.Option.{none, some}
use lib.ListN.{length}
use Rattle.line.specs.Line.{Reading, next}
use Rattle.wire.specs.Wire.{Each}

-- what at most n readings give, the first from place p, each other from where the one before it ended, until there is no frame
unfoldable pub reads : ℕ → List Bool → ℕ → List Reading
reads zero line p = []
reads (suc n) line p = elim (next line p) [ none ↦ [] | some r ↦ r ∷ reads n line r.place ]

-- the same reading on a line that has d more bits before it
abbrev pub later : ℕ → Reading → Reading
later d r = record { refusal = r.refusal; frame = r.frame; place = d + r.place }

-- on a line of a damaged stretch d and a rest, read from place p on: what the damage gives, all of it ended where the rest begins or
-- before, and then, however many more readings are asked for, what the rest gives by itself from its first bit on
pub record Resumes (d rest : List Bool) (p : ℕ) : Type 0 where
  pub damage : List Reading
  pub first : Each (λ r. r.place ≤ length d) damage
  pub then : (n : ℕ) → reads (length damage + n) (d ++ rest) p ≡ damage ++ map (later (length d)) (reads n rest 0)
