-- `zeros::zeros_behind` meets its contract: the ones of the marks of a zero behind five ones.
use Prim.Native.Nat.{ℕ, ◌-◌, ◌*◌, ◌/◌, ◌%◌, ◌^◌}
use mathlib.Core.Path.{◌≡◌, ap}
use mathlib.Core.Bool.{false}
use mathlib.Core.List.{[]}
use native.Mathlib.Omega.{arith}
use lib.Bits.{bit_and}
use lib.Count.{ones}
use lib.Pow.{pow_pos}
use Rattle.bits.proofs.BitLaws.{shifted, length_lowest}
use Rattle.bits.specs.Bits.{lowest}
use Rattle.zeros.specs.Parts.{zero_behind, places}
use Rattle.bits.proofs.MarkLaws.{ones as run, join, zero_marked}
use Rattle.zeros.proofs.CountLaws.{marked_places, places_le}
use Rattle.zeros.proofs.zeros_behind.Goals as goal

pub overflow_sub-zeros : goal.overflow_sub-zeros
overflow_sub-zeros c = let n : ℕ = c.args.n in omega (arith, shifted n (omega arith), pow_pos n)

pub overflow_sub-zeros-2 : goal.overflow_sub-zeros-2
overflow_sub-zeros-2 c = let n : ℕ = c.args.n in omega (arith, shifted n (omega arith))

counted : (c : goal.After-ones_begin) → let n : ℕ = c.args.n in let w : ℕ = c.args.w in let zeros : ℕ = 1 * 2 ^ n % 18446744073709551616 - 1 - w in
    ones (bit_and c.ones_begin.result (zeros / 2 ^ 5)) ≡ places zero_behind (lowest n w)
counted c =
    let n : ℕ = c.args.n in
    let w : ℕ = c.args.w in
    let fits = c.requires.1 in
    marked_places (join (run 5) false [] (record { is = c.ones_begin.ensures n fits }) (zero_marked n w fits _ (ap (λ (x : ℕ). x - 1 - w) (shifted n (omega arith)))))

pub overflow_cast-result : goal.overflow_cast-result
overflow_cast-result c =
    let n : ℕ = c.args.n in
    let w : ℕ = c.args.w in
    omega (arith, counted c, places_le zero_behind (lowest n w), length_lowest n w)

pub returns : goal.returns
returns c = counted c
