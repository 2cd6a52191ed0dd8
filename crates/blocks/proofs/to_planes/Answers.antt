use mathlib.Core.Path.{refl}
use mathlib.Core.Logic.{inl, inr}
use Rattle.blocks.proofs.RiffleLaws.{four_riffles}
use Rattle.blocks.proofs.PlaneLaws.{three_exchanges, planes_of}
use Rattle.blocks.proofs.to_planes.Goals as goal

pub exchange-fours-requires : goal.exchange-fours-requires
exchange-fours-requires c = inr (inr (refl, refl))

pub exchange-twos-requires : goal.exchange-twos-requires
exchange-twos-requires c = inr (inl (refl, refl))

pub exchange-requires : goal.exchange-requires
exchange-requires c = inl (refl, refl)

pub returns : goal.returns
returns c =
    let r = c.before in
    let samples = r.args.samples.now in
    let r1 = r.riffle-once in
    let r2 = r.riffle-twice in
    let r3 = r.riffle-thrice in
    let r4 = r.riffle-columns in
    let e1 = c.exchange-fours in
    let e2 = c.exchange-twos in
    let e3 = c.exchange in
    planes_of samples r4.result e3.result
    (four_riffles samples r1.result r2.result r3.result r1.ensures r2.ensures r3.ensures r4.result r4.ensures)
    (three_exchanges r4.result e1.result e2.result e3.result e1.ensures e2.ensures e3.ensures)
