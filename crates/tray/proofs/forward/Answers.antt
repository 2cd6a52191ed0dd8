use mathlib.Core.Path.{refl, sym}
use native.Mathlib.Omega.{arith}
use lib.ListN.{length}
use Rattle.std.proofs.lemmas.Result.{err_from_is_err_and}
use Rattle.refusals.specs.Refusals.{number}
use Rattle.refusals.proofs.RefusalLaws.{number_positive}
use Rattle.onward.specs.Onward.{wait_of}
use Rattle.tray.proofs.CountLaws.{tray_judged}
use Rattle.tray.proofs.CallLaws.{tray_whole, front_lent, call_refused, call_done}
use Rattle.tray.proofs.forward.Goals as goal

pub returns-in_err-refuse : goal.returns-in_err-refuse
returns-in_err-refuse c =
    let a = c.args in
    let h = a.hop in
    let n = c.count_records-count in
    let s = c.in_err-refuse in
    let judged = tray_judged a.tray.now n.result.count n.result.end (length a.list.now) (number s.field-0.0) n.ensures s.ensures in
    let made_of =
    call_refused h.level (wait_of h.from h.to) h.address a.tray.now a.out.now a.list.now (number s.field-0.0) judged (λ z. let p = number_positive s.field-0.0 in omega (arith, p, z)) in
    let r = err_from_is_err_and c.from_residual.result c.from_residual.ensures.1 in
    rw (r.1, r.2) (record { answer = made_of.0; buffer = made_of.1.0; list = made_of.1.1 })

pub returns : goal.returns
returns c =
    let a = c.args in
    let h = a.hop in
    let n = c.count_records-count in
    let w = c.forward_records-written in
    let judged = tray_judged a.tray.now n.result.count n.result.end (length a.list.now) 0 n.ensures c.in_ok-refuse.ensures in
    let room = (tray_whole a.tray.now (length a.list.now) (sym judged)).1 in
    let list = front_lent a.list.now w.new.list _ n.result.count (omega (arith, room, n.ensures.many)) w.auto.list w.ensures.list in
    let made_of =
    call_done h.level (wait_of h.from h.to) h.address a.tray.now a.out.now a.list.now 0 judged refl n.result.count w.result w.new.out _ n.ensures.many
    w.ensures.written w.ensures.buffer list in
    record { answer = made_of.0; buffer = made_of.1.0; list = made_of.1.1 }
