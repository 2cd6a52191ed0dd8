use Rattle.std.proofs.Common.{◌≡◌, length, arith}
use Rattle.std.proofs.lemmas.Result.{err_from_is_err_and}
use Rattle.room.specs.Parts.{step_paper}
use Rattle.queue.specs.Calls.{taken_paper}
use Rattle.queue.proofs.AnswerLaws.{totals_are_3, taken_blocks, taken_by, taken_none}
use Rattle.queue.proofs.take.Goals as goal

pub returns-in_err-step : goal.returns-in_err-step
unfolding step_paper taken_paper
returns-in_err-step c =
    let a = c.args in
    let w = c.numbers in
    let v = c.in_err-step in
    let clocks : length a.q.clocks ≡ 32 = omega arith in
    let all = taken_none a.store.now a.q a.to a.level a.address a.out.now w.result w.ensures clocks _ v.ensures.step _ v.ensures.buffer in
    let p = err_from_is_err_and c.from_residual.result c.from_residual.ensures.1 in
    record { answer = rw (p.1, p.2) all.0; buffer = all.1.0; waits = rw (p.1, p.2) all.1.1 }

pub lower-requires : goal.lower-requires
unfolding step_paper
lower-requires c =
    let a = c.args in
    let w = c.numbers in
    let v = c.in_ok-step in
    let clocks : length a.q.clocks ≡ 32 = omega arith in
    (totals_are_3 a.q w.result w.ensures, taken_blocks a.store.now a.q a.to a.level a.address a.out.now w.result w.ensures clocks _ v.ensures.step)

pub returns : goal.returns
unfolding step_paper taken_paper
returns c =
    let a = c.args in
    let w = c.numbers in
    let v = c.in_ok-step in
    let clocks : length a.q.clocks ≡ 32 = omega arith in
    let all = taken_by a.store.now a.q a.to a.level a.address a.out.now w.result w.ensures clocks _ v.ensures.step _ v.ensures.buffer c.lower.new.totals c.lower.ensures in
    record { answer = all.0; buffer = all.1.0; waits = all.1.1 }
