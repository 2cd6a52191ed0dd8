-- `length_after` meets its contract.
use Rattle.std.proofs.Common.{arith}
use Rattle.plain_passes.proofs.PassLaws.{drop_length}
use Rattle.plain_passes.proofs.length_after.Goals as goal

pub returns : goal.returns
returns c = omega (arith, drop_length c.args.level c.args.frame.now c.requires)
