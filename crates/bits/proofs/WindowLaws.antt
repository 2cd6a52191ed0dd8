-- Some of the bits of octets, read as one number.
use Prim.Native.Nat.{ℕ, ◌-◌, ◌*◌, ◌^◌, ◌≤◌, ◌<◌, min}
use mathlib.Core.Path.{◌≡◌, ap, ◌∙◌}
use mathlib.Core.Bool.{Bool}
use mathlib.Core.List.{List}
use native.Mathlib.Omega.{arith}
use lib.ListN.{length, take, drop, length-take, length-drop}
use Rattle.bits.specs.Bits.{bits, lowest, value}
use Rattle.bits.proofs.BitLaws.{length_bits, front_lt, front_is, drop_take, take_take_min}

-- the bits of octets from i to the end
abbrev pub rest : List ℕ → ℕ → ℕ → List Bool
rest s end i = drop i (take end (bits s))

pub length_rest : (s : List ℕ) (end : ℕ) → end ≤ 8 * length s → (i : ℕ) → length (rest s end i) ≡ end - i
length_rest s end within i = length-drop i (take end (bits s)) ∙ omega (arith, length-take end (bits s), length_bits s)

-- n of them, at most k, and w their value
module _ (s : List ℕ) (end k i n w : ℕ) (en : n ≡ min k (end - i)) (ew : w ≡ value (take n (drop i (bits s)))) where
  pub window_is : take n (drop i (bits s)) ≡ take k (rest s end i)
  window_is = rw (en, drop_take i end (bits s), take_take_min k (end - i) (drop i (bits s)))

  pub window_fits : w < 2 ^ n
  window_fits = rw ew (front_lt n (drop i (bits s)))

  pub seen : end ≤ 8 * length s → lowest n w ≡ take k (rest s end i)
  seen within = ap (lowest n) ew ∙ front_is n (drop i (bits s)) (omega (arith, length-drop i (bits s), length_bits s)) ∙ window_is
