-- `complement` meets its contract.
use Rattle.plain_check.specs.Check.{complemented}
use Rattle.plain_check.proofs.complement.Goals as goal

pub returns : goal.returns
unfolding complemented
returns c = c.add.ensures
