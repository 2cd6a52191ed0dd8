use Rattle.std.proofs.Common.{◌≡◌, refl, length, arith}
use Rattle.std.proofs.lemmas.Result.{err_from_is_err_and}
use Rattle.room.specs.Parts.{spot_paper}
use Rattle.queue.specs.Calls.{entered_paper}
use Rattle.room.proofs.TakeLaws.{no_zero}
use Rattle.queue.proofs.AnswerLaws.{met, entry_refused, entry_done}
use Rattle.queue.proofs.enter.Goals as goal

pub returns-in_err-spot : goal.returns-in_err-spot
unfolding spot_paper entered_paper
returns-in_err-spot c =
    let a = c.args in
    let e = c.in_err-spot in
    let clocks : length a.q.clocks ≡ 32 = omega arith in
    let made = met a.store.now a.q a.frame.now _ c.enter.new.store c.numbers.result c.numbers.ensures clocks e.ensures.spot e.ensures.store in
    let all = entry_refused a.store.now a.q a.frame.now a.clock _ _ made (no_zero e.field-0.0) in
    let p = err_from_is_err_and c.from_residual.result c.from_residual.ensures.1 in
    record { answer = rw (p.1, p.2) all.0; store = all.1.0; waits = rw (p.1, p.2) all.1.1 }

pub returns : goal.returns
unfolding spot_paper entered_paper
returns c =
    let a = c.args in
    let v = c.in_ok-spot in
    let clocks : length a.q.clocks ≡ 32 = omega arith in
    let made = met a.store.now a.q a.frame.now _ c.enter.new.store c.numbers.result c.numbers.ensures clocks v.ensures.spot v.ensures.store in
    let all = entry_done a.store.now a.q a.frame.now a.clock _ _ made refl _ _ c.raise.new.totals refl refl c.raise.ensures in
    record { answer = all.0; store = all.1.0; waits = all.1.1 }
