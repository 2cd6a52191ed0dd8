-- `zeros::fives` meets its contract: the lowest one of the marks of five ones.
use native.Mathlib.Omega.{arith}
use lib.Count.{trailing_le}
use Rattle.bits.proofs.MarkLaws.{first_marked}
use Rattle.zeros.specs.Parts.{five_ones}
use Rattle.zeros.proofs.fives.Goals as goal

pub overflow_cast-result : goal.overflow_cast-result
overflow_cast-result c = omega (arith, trailing_le 64 c.ones_begin.result)

pub returns : goal.returns
returns c = first_marked 64 c.args.w c.ones_begin.result five_ones (record { is = c.ones_begin.ensures 64 (omega arith) })
