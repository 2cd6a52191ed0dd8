use Rattle.std.proofs.Common.{arith}
use Rattle.onward.specs.Onward.{dropped}
use Rattle.onward.proofs.dropped_of.Goals as goal

pub returns : goal.returns
unfolding dropped
returns c = (cc, omega arith)
