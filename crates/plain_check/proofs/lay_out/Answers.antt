-- `lay_out` meets its contract: the places filled so far, and the rest as it came.
use Rattle.std.proofs.Common.{◌+◌, ◌*◌, ◌%◌, length, ap, ◌∙◌, arith}
use Rattle.plain_check.specs.Bits.{bit}
use Rattle.plain_check.proofs.WalkLaws.{message_bit, laid}
use Rattle.plain_check.proofs.FillLaws.{begun, one_more, all_filled}
use Rattle.plain_check.proofs.lay_out.Goals as goal

pub loop-i-init : goal.loop-i-init
loop-i-init c = begun _ _

pub loop-i-preserved : goal.loop-i-preserved
loop-i-preserved c =
    let a = c.args in
    let l = c.loop-i in
    one_more (message_bit a.message.now) a.bits.now l.i l.bits c.bit.result l.invariant (c.bit.ensures.0 ∙ ap (bit (l.i % 8 + 1)) c.at.ensures.0) (omega arith)

pub returns : goal.returns
returns c =
    let a = c.args in
    let l = c.loop-i in
    all_filled (message_bit a.message.now) a.bits.now l.i (8 * length a.message.now + 16) l.bits l.invariant (omega arith) (omega arith) ∙ laid a.message.now
