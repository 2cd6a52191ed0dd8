-- The masks of flags, of what ends and of what opens.
use Prim.Native.Nat.{ℕ, ◌-◌, ◌/◌, ◌^◌, ◌<◌}
use mathlib.Core.Path.{◌≡◌, refl}
use mathlib.Core.Bool.{Bool, true, false, ◌&&◌, ◌||◌, not, beq}
use mathlib.Core.List.{List, [], ◌∷◌}
use lib.Bits.{bit_and, bit_or, bit_xor}
use lib.ListN.{drop}
use Rattle.bits.specs.Bits.{lowest, value}
use Rattle.bits.specs.Marks.{marks}
use Rattle.bits.specs.Places.{begins}
use Rattle.bits.proofs.MarkLaws.{Marked, both, either, unlike, same, later, join, ones, two, four, one_marked, two_marked, four_marked, zero_marked}
use Rattle.line.specs.Line.{flag_here, opens, ends}

abbrev six : ℕ → ℕ
six w = bit_and (four w) (two w / 2 ^ 4)

abbrev flags : ℕ → ℕ → ℕ
flags w zeros = bit_and (bit_and zeros (six w / 2 ^ 1)) (zeros / 2 ^ 7)

module _ (n w : ℕ) (fits : w < 2 ^ n) (zeros : ℕ) (rest : zeros ≡ 2 ^ n - 1 - w) where
  six_marked : Marked (lowest n w) (begins (ones 6)) (six w)
  six_marked = join (ones 4) true (ones 1) (four_marked n w fits) (two_marked n w fits)

  pub flags_marked : Marked (lowest n w) flag_here (flags w zeros)
  flags_marked =
      let zero : Marked (lowest n w) (begins (false ∷ [])) zeros = zero_marked n w fits zeros rest in
      join (false ∷ ones 6) false [] (join (false ∷ []) true (ones 5) zero six_marked) zero

  pub ends_marked : Marked (lowest n w) ends (bit_or (flags w zeros) (bit_and (six w) (w / 2 ^ 6)))
  ends_marked = either flags_marked (join (ones 6) true [] six_marked (one_marked n w fits))

-- x, but neither y nor z
but : (x y z : Bool) → not (beq x (x && (y || z))) ≡ (x && not y && not z)
but false y z = refl
but true true z = refl
but true false true = refl
but true false false = refl

-- of the marks of flags
pub opens_marked : (bs : List Bool) → (let m : ℕ = value (marks flag_here bs) in Marked bs opens (bit_xor m (bit_and m (bit_or (m / 2 ^ 7) (m / 2 ^ 8)))))
unfolding begins
opens_marked bs =
    let m : Marked bs flag_here (value (marks flag_here bs)) = record { is = refl } in
    same (λ l. but (flag_here l) (flag_here (drop 7 l)) (flag_here (drop 8 l))) (unlike m (both m (either (later 7 refl m) (later 8 refl m))))
