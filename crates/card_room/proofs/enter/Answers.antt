use Rattle.std.proofs.Common.{refl, sym}
use Rattle.std.proofs.lemmas.Result.{err_from_is_err_and}
use Rattle.room.specs.Parts.{spot_paper}
use Rattle.room.proofs.TakeLaws.{no_zero}
use Rattle.card_room.proofs.CallLaws.{no_enter, enter_refused, raisable, enter_done}
use Rattle.card_room.proofs.enter.Goals as goal

pub returns-in_err-numbers : goal.returns-in_err-numbers
returns-in_err-numbers c =
    let a = c.args in
    let e = c.in_err-numbers in
    let all = no_enter a.store.now a.kept.now a.frame.now a.clock _ e.ensures (no_zero e.field-0.0) in
    let p = err_from_is_err_and c.from_residual.result c.from_residual.ensures.1 in
    record { number = rw (p.1, p.2) all.0; store = all.1.0; kept = all.1.1 }

pub returns-in_err-spot : goal.returns-in_err-spot
unfolding spot_paper
returns-in_err-spot c =
    let a = c.args in
    let n = c.in_ok-numbers in
    let e = c.in_err-spot in
    let all = enter_refused a.store.now a.kept.now a.frame.now a.clock (sym n.ensures.0) n.field-0 n.ensures.2 _ _ e.ensures.spot e.ensures.store (no_zero e.field-0.0) in
    let p = err_from_is_err_and c.from_residual-in_err-spot.result c.from_residual-in_err-spot.ensures.1 in
    record { number = rw (p.1, p.2) all.0; store = all.1.0; kept = all.1.1 }

pub raise-requires : goal.raise-requires
unfolding spot_paper
raise-requires c =
    let a = c.args in
    let n = c.in_ok-numbers in
    let v = c.in_ok-spot in
    (raisable a.store.now a.kept.now a.frame.now a.clock (sym n.ensures.0) n.field-0 n.ensures.2 _ _ v.ensures.spot v.ensures.store refl, v.ensures.fits.1)

pub returns : goal.returns
unfolding spot_paper
returns c =
    let a = c.args in
    let n = c.in_ok-numbers in
    let v = c.in_ok-spot in
    let r = c.raise in
    let all = enter_done a.store.now a.kept.now a.frame.now a.clock (sym n.ensures.0) n.field-0 n.ensures.2 _ _ v.ensures.spot v.ensures.store refl r.new.totals r.auto.totals r.ensures in
    record { number = all.0; store = all.1.0; kept = all.1.1 }
