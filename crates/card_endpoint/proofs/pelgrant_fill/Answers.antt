use Rattle.std.proofs.Common.{length, sym, refl, ap, arith}
use Rattle.card.proofs.CardLaws.{roomy_two, within}
use Rattle.card_endpoint.proofs.HearingLaws.{fill_fits}
use Rattle.card_endpoint.proofs.pelgrant_fill.Goals as goal

pub copy-requires : goal.copy-requires
copy-requires c =
    let a = c.args in
    let room = roomy_two (length a.answer.now) 1 (length a.out.now) 128 c.in_default.ensures refl in
    within (sym (ap length c.fill-part.ensures)) (omega (arith, fill_fits a.last.now a.noise.now a.mlast, room.1))
