use Rattle.totals.proofs.TotalsLaws.{any_of_three}
use Rattle.totals.proofs.overfull.Goals as goal

pub returns : goal.returns
returns c = let s = c.before in any_of_three 1536 s.args.totals.now s.requires
