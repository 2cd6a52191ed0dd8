use Rattle.std.proofs.Common.{refl, arith, rules}
use native.Mathlib.Nat.{le_refl}
use lib.Seq.{drop-length}
use Rattle.bits.specs.Bits.{bits, value}
use Rattle.bits.proofs.BitLaws.{made_more, few_lt}
use Rattle.bits.proofs.few.Goals as goal

pub loop-k-init : goal.loop-k-init
unfolding bits value
loop-k-init c = (le_refl _, rw (drop-length c.args.octets.now) refl)

pub overflow_mul-w : goal.overflow_mul-w
overflow_mul-w c =
    let l = c.loop-k in
    omega (arith, l.invariant.1, few_lt c.args.octets.now l.k (omega arith))

pub overflow_add-w : goal.overflow_add-w
overflow_add-w c =
    let l = c.loop-k in
    omega (arith, l.invariant.1, few_lt c.args.octets.now l.k (omega arith))

pub loop-k-preserved : goal.loop-k-preserved
loop-k-preserved c =
    let l = c.loop-k in
    (omega arith, made_more _ l.k l.w c.from.result (omega arith) l.invariant.0 l.invariant.1 (search rules) (omega arith))
