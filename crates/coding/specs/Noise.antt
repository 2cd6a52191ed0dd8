-- Document 01, "Play-out": noise.
use Rattle.std.specs.Prelude.{ℕ, Bool, true, false, [], ◌∷◌, eqb, get_or, Float}
use Rattle.std.specs.Float.Ieee.{round}
use Rattle.std.specs.Float.{binary64}
use Rattle.refusals.specs.Refusals.{refusal12}
use Rattle.coding.specs.declared.Noise.{Noise}
use Rattle.coding.specs.declared.Noise.TheVariants.{Idle, Level, Refused}

-- tenths of dBmc0, codes 1 to 15; 0 for any other code
abbrev pub tenths : ℕ → ℕ
tenths code = get_or (0 ∷ 166 ∷ 197 ∷ 226 ∷ 249 ∷ 269 ∷ 290 ∷ 310 ∷ 328 ∷ 346 ∷ 362 ∷ 379 ∷ 397 ∷ 416 ∷ 438 ∷ 466 ∷ []) code 0

-- n divided by ten, rounded once
abbrev pub tenth : ℕ → Float
tenth n = round binary64 false n 10

-- the answer: its refusal number, whether it is idle, and the level; zeros elsewhere
pub record Paper : Type 0 where
  pub number : ℕ
  pub idle : Bool
  pub level : Float

unfoldable pub noise_of : ℕ → Paper
noise_of code = record { number = refusal12 code 0; idle = eqb code 0; level = tenth (tenths code) }

-- the paper's number and values for each case of the enum
unfoldable pub paper : Noise → Paper
paper Idle = record { number = 0; idle = true; level = tenth 0 }
paper (Level x) = record { number = 0; idle = false; level = x }
paper (Refused n) = record { number = n; idle = false; level = tenth 0 }
