-- `zeros::ones_begin` meets its contract: five ones are four and one more behind them.
use mathlib.Core.Bool.{true}
use Rattle.bits.proofs.MarkLaws.{ones, join, one_marked, four_marked}
use Rattle.zeros.proofs.ones_begin.Goals as goal

pub returns : goal.returns
returns c n fits = let w = c.args.w in (join (ones 4) true (ones 0) (four_marked n w fits) (one_marked n w fits)).is
