-- `fcs::folded_64` meets its contract: it is the fold of 64 bits.
use native.Mathlib.Omega.{arith}
use Rattle.fcs.proofs.FoldLaws.{fold, by_fold64}
use Rattle.fcs.proofs.folded_64.Goals as goal

pub returns : goal.returns
unfolding fold
returns c = by_fold64 c.args.a (omega arith)
