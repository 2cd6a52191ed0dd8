-- `fcs::folded_32` meets its contract: it is the fold of 32 bits.
use native.Mathlib.Omega.{arith}
use Rattle.fcs.proofs.FoldLaws.{fold, by_fold32}
use Rattle.fcs.proofs.folded_32.Goals as goal

pub returns : goal.returns
unfolding fold
returns c = by_fold32 c.args.a (omega arith)
