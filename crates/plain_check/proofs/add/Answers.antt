-- `add` meets its contract: the places added so far.
use Rattle.std.proofs.Common.{sym, add-one, arith}
use Rattle.plain_check.proofs.WalkLaws.{added_next, added_none}
use Rattle.plain_check.proofs.add.Goals as goal

pub loop-i-init : goal.loop-i-init
loop-i-init c = sym (added_none _)

pub loop-i-preserved : goal.loop-i-preserved
loop-i-preserved c =
    let a = c.args in
    let l = c.loop-i in
    rw (c.from.ensures, c.from-in-loop-i.ensures, l.invariant, add-one) (added_next a.upper.now a.bits.now l.i (omega arith) (omega arith))
