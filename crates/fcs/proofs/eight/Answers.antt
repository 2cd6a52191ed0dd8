-- `fcs::eight` meets its contract.
use borrow.Author.Rules.{rules}
use native.Mathlib.Omega.{arith}
use Rattle.fcs.proofs.FoldLaws.{fed_eight}
use Rattle.fcs.proofs.eight.Goals as goal

pub returns : goal.returns
returns c = fed_eight c.args.octets.now c.eight.result (omega arith) (search rules) c.eight.ensures
