-- `pick_block` meets its contract: the octets picked so far, and the rest as it came.
use Rattle.std.proofs.Common.{ℕ, ◌+◌, ◌++◌, List, drop, ap, arith}
use lib.Seq.{length-take-le}
use Rattle.plain_check.proofs.FillLaws.{begun, one_more, all_filled}
use Rattle.plain_blocks.specs.Figure7.{picked_octet, picked_block}
use Rattle.plain_blocks.proofs.pick_block.Goals as goal

pub loop-j-init : goal.loop-j-init
loop-j-init c = begun _ _

pub loop-j-preserved : goal.loop-j-preserved
loop-j-preserved c =
    let a = c.args in
    let l = c.loop-j in
    one_more (λ (k : ℕ). picked_octet a.s a.samples.now a.b (k + 1)) _ l.j l.octet-items c.pick_octet.result l.invariant c.pick_octet.ensures c.loop-j-test.true

pub returns : goal.returns
unfolding picked_block
returns c =
    let a = c.args in
    let l = c.loop-j in
    let n = length-take-le 16 a.block.now c.requires.2 in
    ap (λ (x : List ℕ). x ++ drop 16 a.block.now) (all_filled (λ (k : ℕ). picked_octet a.s a.samples.now a.b (k + 1)) _ l.j 16 l.octet-items l.invariant (omega (arith, n)) n)
