-- `reduce` meets its contract, by the two ways of a line.
use mathlib.Core.Path.{◌≡◌}
use Rattle.plain_check.specs.Check.{added, generator_polynomial}
use Rattle.plain_check.proofs.WalkLaws.{reduced_one, reduced_else}
use Rattle.plain_check.proofs.reduce.Goals as goal

pub returns-then-bits-eq1 : goal.returns-then-bits-eq1
unfolding generator_polynomial
returns-then-bits-eq1 c =
    let l = c.args.bits.now in
    let p = c.add.new.bits in
    let sum : p ≡ added generator_polynomial l = c.add.ensures in
    reduced_one l p c.if-bits-eq1.true sum

pub returns-else-bits-eq1 : goal.returns-else-bits-eq1
returns-else-bits-eq1 c = reduced_else _ c.if-bits-eq1.false
