-- `bits::window` meets its contract.
use native.Mathlib.Omega.{arith}
use lib.Pow.{pow_pos}
use Rattle.bits.proofs.BitLaws.{window_is, shifted}
use Rattle.bits.proofs.window.Goals as goal

pub overflow_sub-mask : goal.overflow_sub-mask
overflow_sub-mask c =
    let n = c.args.n in
    rw (shifted n (omega arith)) (pow_pos n)

pub returns : goal.returns
returns c =
    let a = c.args in
    window_is a.s.now a.i a.n c.from.result (omega arith) c.from.ensures
