use Rattle.std.proofs.Common.{refl, sym, arith, ◌∙◌}
use Rattle.walking.proofs.StreamLaws.{run_start, run_step, run_stop, run_over, taken_here, more_taken, within_then, collected_then}
use Rattle.walking.proofs.pass.Goals as goal

pub loop-out-init : goal.loop-out-init
loop-out-init c = (refl, run_start (omega arith) (omega arith) (omega arith))

pub returns-in_default : goal.returns-in_default
returns-in_default c =
    let l = c.loop-out.invariant.1 in
    let n = c.loop-out.state.number in
    let k = sym c.ready.ensures ∙ c.loop-out-test.true in
    let q = c.step-stepped.ensures in
    record {
      have = refl;
      from = l.taken;
      end = within_then l n k q;
      collected = collected_then l n k q;
      prints = λ more lines z p. rw p (run_stop l n k q (rw c.in_default.is) more z);
    }

pub overflow_add-from : goal.overflow_add-from
overflow_add-from c = omega (arith, taken_here c.loop-out.invariant.1 c.loop-out.state.number (sym c.ready.ensures ∙ c.loop-out-test.true) c.step-stepped.ensures c.in-Some.is)

pub loop-out-smaller : goal.loop-out-smaller
loop-out-smaller c =
    let l = c.loop-out.invariant.1 in
    let n = c.loop-out.state.number in
    let k = sym c.ready.ensures ∙ c.loop-out-test.true in
    let q = c.step-stepped.ensures in
    omega (arith, taken_here l n k q c.in-Some.is, more_taken l n k q c.in-Some.is)

pub loop-out-preserved : goal.loop-out-preserved
loop-out-preserved c = (refl, run_step c.loop-out.invariant.1 c.loop-out.state.number (sym c.ready.ensures ∙ c.loop-out-test.true) c.step-stepped.ensures c.in-Some.is)

pub returns : goal.returns
returns c =
    let l = c.loop-out.invariant.1 in
    record { have = refl; from = l.taken; end = l.room; collected = l.collected; prints = run_over l }
