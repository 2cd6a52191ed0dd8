-- `fcs::ended_64` meets its contract: the low half folded, and 32 bits.
use Rattle.fcs.proofs.FoldLaws.{twice}
use Rattle.fcs.proofs.ended_64.Goals as goal

pub returns : goal.returns
returns c =
    let low = c.folded_32-low in
    twice 32 c.args.a low.result low.ensures c.ended_32.ensures
