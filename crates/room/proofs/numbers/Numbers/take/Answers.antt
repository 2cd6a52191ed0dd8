use Rattle.std.proofs.Common.{sym, length}
use Rattle.std.proofs.lemmas.Result.{err_from_is_err_and}
use Rattle.room.specs.Waiting.{outside}
use Rattle.room.specs.Parts.{clocked}
use Rattle.room.proofs.TakeLaws.{at_14, at_26, some_wait, first_fits, step_none, step_refused, step_done}
use Rattle.room.proofs.numbers.Numbers.take.Goals as goal

pub returns-in_err-judge : goal.returns-in_err-judge
unfolding outside
returns-in_err-judge c =
    let a = c.args in
    let q = clocked a.self.now a.clocks.now in
    let e = c.in_err-judge in
    let made = step_none a.store.now q a.self.now.slots.all c.requires a.to a.level a.address a.out.now e.field-0.0 (at_14 (length a.store.now) q e.field-0.0 e.ensures) in
    let p = err_from_is_err_and c.from_residual.result c.from_residual.ensures.1 in
    record { step = rw (p.1, p.2) made.0; buffer = made.1 }

pub returns-in_err-refuse : goal.returns-in_err-refuse
unfolding outside
returns-in_err-refuse c =
    let a = c.args in
    let q = clocked a.self.now a.clocks.now in
    let e = c.in_err-refuse in
    let made = step_none a.store.now q a.self.now.slots.all c.requires a.to a.level a.address a.out.now e.field-0.0 (at_26 (length a.store.now) q _ c.in_ok-judge.ensures.0 e.ensures) in
    let p = err_from_is_err_and c.from_residual-in_err-refuse.result c.from_residual-in_err-refuse.ensures.1 in
    record { step = rw (p.1, p.2) made.0; buffer = made.1 }

pub send_on-requires : goal.send_on-requires
unfolding outside
send_on-requires c =
    let a = c.args in
    let q = clocked a.self.now a.clocks.now in
    let s = a.self.now.slots in
    let w = some_wait (length a.store.now) q (sym (at_26 (length a.store.now) q 0 c.in_ok-judge.ensures.0 c.in_ok-refuse.ensures)) in
    (w.0.place, first_fits a.store.now q s.all c.requires w.0 w.1, s.octets q.first)

pub returns-in_err-gone : goal.returns-in_err-gone
unfolding outside
returns-in_err-gone c =
    let a = c.args in
    let q = clocked a.self.now a.clocks.now in
    let none = sym (at_26 (length a.store.now) q 0 c.in_ok-judge.ensures.0 c.in_ok-refuse.ensures) in
    let e = c.in_err-gone in
    let made = step_refused a.store.now q a.self.now.slots.all c.requires a.to a.level a.address a.out.now none c.send_on.new.out e.field-0.0 (e.ensures.gone, e.ensures.buffer) in
    let p = err_from_is_err_and c.from_residual-in_err-gone.result c.from_residual-in_err-gone.ensures.1 in
    record { step = rw (p.1, p.2) made.0; buffer = made.1 }

pub returns : goal.returns
unfolding outside
returns c =
    let a = c.args in
    let q = clocked a.self.now a.clocks.now in
    let none = sym (at_26 (length a.store.now) q 0 c.in_ok-judge.ensures.0 c.in_ok-refuse.ensures) in
    let g = c.in_ok-gone in
    let made =
    step_done a.store.now q a.self.now.slots.all c.requires a.to a.level a.address a.out.now none c.send_on.new.out g.gone (g.ensures.gone, g.ensures.buffer)
    c.place_after.result c.place_after-2.result c.place_after.ensures c.place_after-2.ensures in
    record { step = made.0; buffer = made.1 }
