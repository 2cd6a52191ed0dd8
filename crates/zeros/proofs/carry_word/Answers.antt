-- `zeros::carry_word` meets its contract: each turn of the loop is `turn_five`, and what is left `turn_last`.
use mathlib.Core.Path.{◌∙◌}
use native.Mathlib.Omega.{arith}
use Rattle.zeros.proofs.CarryLaws.{byte_is, put_le}
use Rattle.zeros.proofs.WordLaws.{turn_none, turn_five, turn_last, under}
use Rattle.zeros.proofs.carry_word.Goals as goal

pub overflow_sub-skip : goal.overflow_sub-skip
overflow_sub-skip c = omega (arith, put_le c.args.writing, byte_is c.args.writing)

pub loop-taken-init : goal.loop-taken-init
loop-taken-init c =
    let a = c.args in
    under a.writing a.bits a.sure c.from-put.result c.requires.1 c.requires.2 (c.from-put.ensures ∙ byte_is a.writing) a.bits 0 0 0 c.fives-j.result c.fives-j.ensures
    (λ bs e h. turn_none a.writing bs a.bits e)

pub loop-taken-preserved : goal.loop-taken-preserved
loop-taken-preserved c =
    let a = c.args in
    let l = c.loop-taken in
    let i = l.invariant in
    let put = c.from-put.ensures ∙ byte_is a.writing in
    under a.writing a.bits a.sure c.from-put.result c.requires.1 c.requires.2 put _ _ _ _ c.fives-j-in-loop-taken.result c.fives-j-in-loop-taken.ensures
    (λ bs e h. rw (c.behind-made.ensures, put) (turn_five a.writing bs a.sure l.w l.made l.n l.taken l.j c.requires.1 h (i.turn bs e h) i.ones c.loop-taken-test.true))

pub returns : goal.returns
returns c =
    let a = c.args in
    let l = c.loop-taken in
    let i = l.invariant in
    λ bs e h. rw (c.behind.ensures, c.saturating_sub-rest.ensures)
    (turn_last a.writing bs a.sure l.w l.made l.n l.taken l.j c.requires.1 h (i.turn bs e h) i.ones c.loop-taken-test.false c.requires.0)
