-- `fcs::good` meets its contract.
use mathlib.Core.Path.{◌∙◌}
use Rattle.fcs.proofs.SealLaws.{tested}
use Rattle.fcs.proofs.good.Goals as goal

pub returns : goal.returns
returns c =
    let a = c.args in
    tested a.n a.frame.now c.saturating_sub.ensures c.at-low.ensures.0 c.saturating_sub-2.ensures c.at-high.ensures.0 c.min.ensures (c.from.ensures ∙ c.first-check.ensures)
