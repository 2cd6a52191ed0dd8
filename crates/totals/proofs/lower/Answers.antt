use Rattle.std.proofs.Common.{rules, ◌-◌}
use Rattle.totals.specs.Totals.{lowered}
use Rattle.totals.proofs.TotalsLaws.{moved}
use Rattle.totals.proofs.lower.Goals as goal

pub returns : goal.returns
unfolding lowered
returns c f e =
    let a = c.args in
    let x = c.given_back in
    let y = c.given_back-2 in
    let z = c.given_back-3 in
    moved ◌-◌ f a.totals.now a.blocks x.result y.result z.result _ _ _ c.requires.0 x.ensures.0 y.ensures.0 z.ensures.0
    (search rules) (search rules) (search rules) e
