use native.Mathlib.Omega.{arith}
use Rattle.tray.proofs.CountLaws.{count_size, count_next, count_over}
use Rattle.tray.proofs.count_records.Goals as goal

pub loop-size-smaller : goal.loop-size-smaller
loop-size-smaller c =
    let s = count_size c.args.tray.now _ _ c.loop-size.invariant c.in-Some.size c.in-Some.ensures.0 c.in-Some.ensures.1 in
    omega (arith, s.0, s.1)

pub loop-size-preserved : goal.loop-size-preserved
loop-size-preserved c = count_next c.args.tray.now _ _ c.loop-size.invariant c.in-Some.size c.in-Some.ensures.0 c.in-Some.ensures.1

pub returns : goal.returns
returns c = count_over c.args.tray.now _ _ c.loop-size.invariant c.in_default.ensures
