use mathlib.Core.Path.{refl}
use native.Mathlib.Omega.{arith}
use Rattle.std.specs.Prelude.{Ok, Err}
use Rattle.std.proofs.lemmas.Result.{err_from_is_err_and}
use Rattle.refusals.proofs.RefusalLaws.{number_positive}
use Rattle.onward.specs.Onward.{wait_of}
use Rattle.onward.specs.Sent.{sent_paper}
use Rattle.tray.proofs.RecordLaws.{record_refused, record_room, head_room, record_done}
use Rattle.tray.proofs.forward_record.Goals as goal

pub returns-in_err-length : goal.returns-in_err-length
unfolding sent_paper
returns-in_err-length c =
    let a = c.args in
    let h = a.hop in
    let s = c.in_err-length in
    let made_of =
    record_refused h.level (wait_of h.from h.to) h.address a.frame.now a.out.now c.min-start.result c.min-start.ensures (sent_paper (Err s.field-0.0)) c.forward.new.out
    s.ensures.answer s.ensures.buffer (λ z. let p = number_positive s.field-0.0 in omega (arith, p, z)) in
    let r = err_from_is_err_and c.from_residual.result c.from_residual.ensures.1 in
    rw (r.1, r.2) (record { answer = made_of.0; buffer = made_of.1 })

pub put_head-requires : goal.put_head-requires
unfolding sent_paper
put_head-requires c =
    let a = c.args in
    let h = a.hop in
    let s = c.in_ok-length in
    head_room h.level (wait_of h.from h.to) h.address a.frame.now a.out.now c.min-start.result c.min-start.ensures (sent_paper (Ok s.length)) c.forward.new.out
    s.ensures.answer s.ensures.buffer refl

pub overflow_add-result : goal.overflow_add-result
unfolding sent_paper
overflow_add-result c =
    let a = c.args in
    let h = a.hop in
    let s = c.in_ok-length in
    omega (arith, record_room h.level (wait_of h.from h.to) h.address a.frame.now a.out.now c.min-start.result c.min-start.ensures (sent_paper (Ok s.length)) c.forward.new.out s.ensures.answer s.ensures.buffer refl)

pub returns : goal.returns
unfolding sent_paper
returns c =
    let a = c.args in
    let h = a.hop in
    let s = c.in_ok-length in
    let made_of =
    record_done h.level (wait_of h.from h.to) h.address a.frame.now a.out.now c.min-start.result c.min-start.ensures (sent_paper (Ok s.length)) c.forward.new.out
    s.ensures.answer s.ensures.buffer refl c.put_head.new.out c.put_head.ensures in
    record { answer = made_of.0; buffer = made_of.1 }
