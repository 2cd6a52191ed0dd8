-- `fcs::sixteen` meets its contract: it is the fold of sixteen bits.
use native.Mathlib.Omega.{arith}
use Rattle.fcs.proofs.FoldLaws.{fold, by_fold16}
use Rattle.fcs.proofs.sixteen.Goals as goal

pub returns : goal.returns
unfolding fold
returns c = by_fold16 c.args.a (omega arith)
