-- How the code works on many bits at once. No call's promise cites what stands here.
use Rattle.std.specs.Prelude.{ℕ, zero, suc, ◌+◌, ◌*◌, ◌^◌, ◌≤◌, ◌<◌, ◌≡◌, Bool, true, false, cond, List, [], ◌∷◌, ◌++◌, length, take, drop}
use Rattle.bits.specs.Bits.{bits, lowest}
use Rattle.bits.specs.Places.{begins}
use Rattle.zeros.specs.Zeros.{stuff, unstuff}

abbrev pub five_ones : List Bool → Bool
five_ones = begins (true ∷ true ∷ true ∷ true ∷ true ∷ [])

-- a zero behind five ones
abbrev pub zero_behind : List Bool → Bool
zero_behind = begins (true ∷ true ∷ true ∷ true ∷ true ∷ false ∷ [])

-- how many places there are where the test holds of what is left
unfoldable pub places : (List Bool → Bool) → List Bool → ℕ
places test [] = 0
places test (b ∷ bs) = cond (test (b ∷ bs)) 1 0 + places test bs

-- at most n ones, and from the next zero on never more than five in a row
abbrev pub Calm : ℕ → List Bool → Type 0
Calm n [] = Unit {0}
Calm n (false ∷ bs) = Calm 5 bs
Calm zero (true ∷ bs) = ⊥
Calm (suc n) (true ∷ bs) = Calm n bs

-- what bits become where they are written, and where they are read
abbrev pub carried : Bool → List Bool → List Bool
carried true bs = stuff 4 bs
carried false bs = unstuff 5 bs

-- the first `taken` of the bits (one more than there are, where nothing follows the last five ones) become the n bits of `made`, and what
-- is left is carried by itself
pub record Some (writing : Bool) (bs : List Bool) (made n taken : ℕ) : Type 0 where
  pub on : 0 < taken
  pub within : taken ≤ suc (length bs)
  pub short : n ≤ 57
  pub fits : made < 2 ^ n
  pub is : carried writing bs ≡ lowest n made ++ carried writing (drop taken bs)

-- more bits behind those of the octets below `at` and the n that are held for the octet there
pub record More (before after : List ℕ) (at held n : ℕ) (more : List Bool) (at₂ held₂ n₂ : ℕ) : Type 0 where
  pub short : n₂ < 8
  pub fits : held₂ < 2 ^ n₂
  pub far : 8 * at₂ + n₂ ≡ 8 * at + n + length more
  pub is : bits (take at₂ after) ++ lowest n₂ held₂ ≡ bits (take at before) ++ lowest n held ++ more
  pub rest : drop at₂ after ≡ drop at₂ before
  pub long : length after ≡ length before
