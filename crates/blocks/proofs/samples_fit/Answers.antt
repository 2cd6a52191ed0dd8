use mathlib.Core.Path.{◌≡◌, sym, ap, ◌∙◌}
use mathlib.Core.Bool.{Bool, ◌&&◌}
use Prim.Native.Nat.{◌^◌}
use native.Mathlib.Omega.{arith}
use borrow.Author.Tests.{ne_eqb, eq-eqb}
use lib.ListN.{length, get_or}
use Rattle.blocks.specs.Blocks.{all_below, samples_fit}
use Rattle.blocks.proofs.BlocksLaws.{below_more, below_end}
use Rattle.blocks.proofs.samples_fit.Goals as goal

pub returns-then-samples-ne128 : goal.returns-then-samples-ne128
unfolding samples_fit
returns-then-samples-ne128 c =
    let a = c.args in
    sym (ap (λ (t : Bool). t && all_below (2 ^ a.s) a.samples.now) (ne_eqb (length a.samples.now) 128 c.if-samples-ne128.true))

pub loop-x-preserved : goal.loop-x-preserved
loop-x-preserved c =
    let a = c.args in
    let l = c.loop-x in
    below_more (2 ^ a.s) a.samples.now l.x-index l.fit _ (omega arith) (c.highest-top.ensures (get_or a.samples.now l.x-index 0) (c.type_inv.samples l.x-index).fits) ∙ l.invariant

pub returns : goal.returns
unfolding samples_fit
returns c =
    let a = c.args in
    let l = c.loop-x in
    let n : length a.samples.now ≡ 128 = omega arith in
    rw (eq-eqb _ _ n) (sym (below_end (2 ^ a.s) a.samples.now l.x-index l.fit (omega arith)) ∙ l.invariant)
