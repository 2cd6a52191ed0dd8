-- `fcs::seal` meets its contract.
use Rattle.fcs.proofs.SealLaws.{sealed}
use Rattle.fcs.proofs.seal.Goals as goal

pub returns : goal.returns
returns c =
    let check = c in
    let a = check.args in
    sealed a.n a.at a.out.now _ check.first-check.ensures c.put.ensures
