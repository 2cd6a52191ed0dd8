use mathlib.Core.Path.{refl}
use mathlib.Core.Logic.{inl, inr}
use Rattle.blocks.proofs.RiffleLaws.{three_riffles}
use Rattle.blocks.proofs.PlaneLaws.{three_exchanges, samples_of_lem}
use Rattle.blocks.proofs.from_planes.Goals as goal

pub exchange-fours-requires : goal.exchange-fours-requires
exchange-fours-requires c = inr (inr (refl, refl))

pub exchange-twos-requires : goal.exchange-twos-requires
exchange-twos-requires c = inr (inl (refl, refl))

pub exchange-columns-requires : goal.exchange-columns-requires
exchange-columns-requires c = inl (refl, refl)

pub returns : goal.returns
returns c =
    let e = c.before in
    let planes = e.args.planes.now in
    let e1 = e.exchange-fours in
    let e2 = e.exchange-twos in
    let e3 = e.exchange-columns in
    let r1 = c.riffle-once in
    let r2 = c.riffle-twice in
    let r3 = c.riffle in
    samples_of_lem planes e3.result r3.result
    (three_exchanges planes e1.result e2.result e3.result e1.ensures e2.ensures e3.ensures)
    (three_riffles e3.result r1.result r2.result r3.result r1.ensures r2.ensures r3.ensures)
