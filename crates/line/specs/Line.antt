-- Request A4: the flags on a line, and what stands between them.
use Rattle.std.specs.Prelude.{ℕ, ◌+◌, ◌/◌, ◌%◌, Bool, true, false, ◌&&◌, ◌||◌, not, cond, List, [], ◌∷◌, ◌++◌, eqb, length, take, drop}
use Rattle.std.proofs.Math.Option.{Option, none, some}
use Rattle.refusals.specs.Refusals.{◌or_else◌, refuse, if_taken, refusal1}
use Rattle.bits.specs.Bits.{bits, octets_of}
use Rattle.bits.specs.Places.{begins, until}
use Rattle.zeros.specs.Zeros.{stuff, unstuff}

-- ---- the writer

abbrev pub flag : List Bool
flag = false ∷ true ∷ true ∷ true ∷ true ∷ true ∷ true ∷ false ∷ []

-- what a frame puts on a line: its bits and a closing flag; on an empty line, an opening flag before them
unfoldable pub put : List Bool → List ℕ → List Bool
put [] f = flag ++ (stuff 4 (bits f) ++ flag)
put (b ∷ line) f = stuff 4 (bits f) ++ flag

-- ---- the reader

abbrev pub flag_here : List Bool → Bool
flag_here = begins flag

abbrev pub seven_ones : List Bool → Bool
seven_ones = begins (true ∷ true ∷ true ∷ true ∷ true ∷ true ∷ true ∷ [])

-- a flag that another follows with nothing between, on its last zero or behind it, opens nothing: the later one may
abbrev pub opens : List Bool → Bool
opens bs = flag_here bs && not (flag_here (drop 7 bs)) && not (flag_here (drop 8 bs))

abbrev pub ends : List Bool → Bool
ends bs = flag_here bs || seven_ones bs

-- what one reading gives: a number, the frame where that is 0, and where the closing flag or the seven ones begin
pub record Reading : Type 0 where
  pub refusal : ℕ
  pub frame : List ℕ
  pub place : ℕ

-- of n bits between: 22, 23, 1
unfoldable pub between_refusal : Bool → ℕ → ℕ
between_refusal aborted n = refuse (not (eqb (n % 8) 0)) 22 or_else refuse aborted 23 or_else refusal1 (n / 8)

-- what closes at `place`, given what stands there and the bits between, as sent
unfoldable pub closed : ℕ → List Bool → List Bool → Reading
closed place there sent =
    let u : List Bool = unstuff 5 sent in
    let r : ℕ = between_refusal (seven_ones there) (length u) in
    record { refusal = r; frame = if_taken r (octets_of (length u / 8) u) []; place = place }

-- the bits that follow an opening flag, from `place` on, up to the first flag or seven ones
unfoldable pub reading : ℕ → List Bool → Option Reading
reading place bs =
    let n : ℕ = until ends bs in
    cond (ends (drop n bs)) (some (closed (place + n) (drop n bs) (take n bs))) none

-- the first place, from p on, behind a flag that opens; past the line's end where none does
unfoldable pub begin : List Bool → ℕ → ℕ
begin line p = p + until opens (drop p line) + 8

-- one reading of a line from place p on, or no frame
unfoldable pub next : List Bool → ℕ → Option Reading
next line p = reading (begin line p) (drop (begin line p) line)
