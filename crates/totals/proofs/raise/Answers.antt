use Rattle.std.proofs.Common.{rules, ◌+◌, refl, get_or, set}
use Rattle.totals.specs.Totals.{raised}
use Rattle.totals.proofs.TotalsLaws.{none_above, still, moved}
use Rattle.totals.proofs.raise.Goals as goal

pub overflow_add-totals : goal.overflow_add-totals
overflow_add-totals c = let t = none_above 1536 c.args.totals.now c.requires.0.within 0 in search rules

pub overflow_add-totals-2 : goal.overflow_add-totals-2
overflow_add-totals-2 c =
    let ts = c.args.totals.now in
    let t = none_above 1536 ts c.requires.0.within 1 in
    let s = still ts (get_or ts 0 0 + c.given_back.result) 0 c.requires.0.three in
    rw s.0 (search rules)

pub overflow_add-totals-3 : goal.overflow_add-totals-3
overflow_add-totals-3 c =
    let ts = c.args.totals.now in
    let one = get_or ts 0 0 + c.given_back.result in
    let t = none_above 1536 ts c.requires.0.within 2 in
    let s = still ts one (get_or (set ts 0 one) 1 0 + c.given_back-2.result) c.requires.0.three in
    rw s.1 (search rules)

pub returns : goal.returns
unfolding raised
returns c f e =
    let a = c.args in
    let x = c.given_back in
    let y = c.given_back-2 in
    let z = c.given_back-3 in
    moved ◌+◌ f a.totals.now a.blocks x.result y.result z.result _ _ _ c.requires.0.three x.ensures.0 y.ensures.0 z.ensures.0 refl refl refl e
