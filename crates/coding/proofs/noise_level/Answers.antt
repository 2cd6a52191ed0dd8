use Prim.Native.Nat.{ℕ, ◌≤◌}
use mathlib.Core.Path.{◌≡◌, refl, ap}
use native.Mathlib.Omega.{arith}
use lib.ListN.{get_or-eq_default}
use lib.IntN.{pos}
use lib.Ieee.{Float, binary64, round, div, of_int, of_bits}
use borrow.Author.Tests.{lt-ltb, le-ltb, ne_eqb}
use Rattle.octets.specs.Octets.{tab}
use Rattle.octets.proofs.TabLaws.{agree}
use Rattle.coding.specs.Noise.{tenths, tenth, noise_of, paper}
use Rattle.coding.specs.declared.Noise.TheVariants.{Level}
use Rattle.coding.proofs.noise_level.Goals as goal

-- what the code computes of a number of tenths, and that it is the double that the paper wants
abbrev coded : ℕ → Float
coded n = div binary64 (of_int binary64 (pos n)) (of_bits binary64 4621819117588971520)

levels : tab (λ k. coded (tenths k)) 16 ≡ tab (λ k. tenth (tenths k)) 16
unfolding tab round div of_int of_bits
levels = refl

pub returns-in-0 : goal.returns-in-0
unfolding paper noise_of
returns-in-0 c = rw c.in-0.is refl

pub returns-in-1-to-15 : goal.returns-in-1-to-15
unfolding paper noise_of
returns-in-1-to-15 c =
    let k = c.args.code in
    simp (le-ltb 15 k (omega arith), ne_eqb k 0 (λ z. omega arith), c.from-in-1-to-15.ensures, c.from.ensures)
    (ap (λ x. paper (Level x)) (agree (λ n. coded (tenths n)) (λ n. tenth (tenths n)) 16 levels k (omega arith)))

pub returns-in_default : goal.returns-in_default
unfolding paper noise_of
returns-in_default c =
    let k = c.args.code in
    let above : 16 ≤ k = omega arith in
    simp (lt-ltb 15 k above, ne_eqb k 0 (λ e. omega arith), get_or-eq_default)
