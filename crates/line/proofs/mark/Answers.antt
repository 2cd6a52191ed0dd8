-- `line::mark` meets its contract: each mask is the marks of a test.
use Prim.Native.Nat.{ℕ, ◌-◌}
use mathlib.Core.Path.{ap}
use native.Mathlib.Omega.{arith}
use lib.Pow.{pow_pos}
use Rattle.bits.specs.Bits.{lowest}
use Rattle.bits.proofs.BitLaws.{shifted}
use Rattle.line.proofs.FlagLaws.{flags_marked, opens_marked, ends_marked}
use Rattle.line.proofs.mark.Goals as goal

pub overflow_sub-zeros : goal.overflow_sub-zeros
overflow_sub-zeros c = let n : ℕ = c.args.n in omega (arith, shifted n (omega arith), pow_pos n)

pub overflow_sub-zeros-2 : goal.overflow_sub-zeros-2
overflow_sub-zeros-2 c = let n : ℕ = c.args.n in omega (arith, shifted n (omega arith))

pub returns-in-Opening : goal.returns-in-Opening
returns-in-Opening c =
    let a = c.args in
    rw (c.in-Opening.is, (flags_marked a.n a.w c.requires.1 _ (ap (λ (x : ℕ). x - 1 - a.w) (shifted a.n (omega arith)))).is) (opens_marked (lowest a.n a.w)).is

pub returns-in-End : goal.returns-in-End
returns-in-End c =
    let a = c.args in
    rw c.in-End.is (ends_marked a.n a.w c.requires.1 _ (ap (λ (x : ℕ). x - 1 - a.w) (shifted a.n (omega arith)))).is
