use Rattle.std.proofs.Common.{refl}
use Rattle.std.proofs.lemmas.Result.{err_from_is_err_and}
use Rattle.room.specs.Parts.{step_paper}
use Rattle.room.proofs.TakeLaws.{no_zero}
use Rattle.onward.specs.Sent.{sent_paper}
use Rattle.card_queue.proofs.QueueLaws.{clocks_32}
use Rattle.card_room.proofs.CallLaws.{no_take, take_refused, lowerable, take_done}
use Rattle.card_room.proofs.take.Goals as goal

pub returns-in_err-numbers : goal.returns-in_err-numbers
unfolding sent_paper
returns-in_err-numbers c =
    let a = c.args in
    let e = c.in_err-numbers in
    let all = no_take a.store.now a.kept.now a.to a.level a.address a.out.now _ e.ensures (no_zero e.field-0.0) in
    let p = err_from_is_err_and c.from_residual.result c.from_residual.ensures.1 in
    record { number = rw (p.1, p.2) all.0; length = rw p.1 all.1.0; out = all.1.1.0; kept = all.1.1.1 }

pub take-requires : goal.take-requires
take-requires c = rw c.readings.ensures (clocks_32 c.args.kept.now c.in_ok-numbers.ensures.1)

pub returns-in_err-step : goal.returns-in_err-step
unfolding sent_paper step_paper
returns-in_err-step c =
    let a = c.args in
    let n = c.in_ok-numbers in
    let e = c.in_err-step in
    let all = take_refused a.store.now a.kept.now a.to a.level a.address a.out.now n.ensures.0 n.field-0 n.ensures.2 _ c.readings.ensures _ e.ensures.step _ e.ensures.buffer _ refl (no_zero e.field-0.0) in
    let p = err_from_is_err_and c.from_residual-in_err-step.result c.from_residual-in_err-step.ensures.1 in
    record { number = rw (p.1, p.2) all.0; length = rw p.1 all.1.0; out = all.1.1.0; kept = all.1.1.1 }

pub lower-requires : goal.lower-requires
unfolding step_paper
lower-requires c =
    let a = c.args in
    let n = c.in_ok-numbers in
    lowerable a.store.now a.kept.now a.to a.level a.address a.out.now n.ensures.0 n.field-0 n.ensures.2 _ c.readings.ensures _ c.in_ok-step.ensures.step

pub returns : goal.returns
unfolding sent_paper step_paper
returns c =
    let a = c.args in
    let n = c.in_ok-numbers in
    let v = c.in_ok-step in
    let l = c.lower in
    let all = take_done a.store.now a.kept.now a.to a.level a.address a.out.now n.ensures.0 n.field-0 n.ensures.2 _ c.readings.ensures _ v.ensures.step _ v.ensures.buffer refl l.new.totals l.auto.totals l.ensures in
    record { number = all.0; length = all.1.0; out = all.1.1.0; kept = all.1.1.1 }
