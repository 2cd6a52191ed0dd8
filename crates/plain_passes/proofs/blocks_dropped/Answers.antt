-- `blocks_dropped` meets its contract.
use Rattle.std.proofs.Common.{arith}
use Rattle.plain_passes.specs.Passes.{blocks_dropped}
use Rattle.plain_passes.proofs.blocks_dropped.Goals as goal

pub returns : goal.returns
unfolding blocks_dropped
returns c = (cc, omega arith)
