use Rattle.onward.proofs.OnwardLaws.{onward_length}
use Rattle.onward.proofs.onward_length.Goals as goal

pub returns : goal.returns
returns c = λ wait addr. let e = onward_length c.args.level wait addr c.args.frame.now in cc
