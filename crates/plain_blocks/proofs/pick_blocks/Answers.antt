-- `pick_blocks` meets its contract: the blocks picked so far, and the rest as it came.
use Prim.Native.Nat.{ℕ, ◌+◌, ◌*◌}
use mathlib.Core.Path.{◌≡◌, sym, ap, ap₂, ◌∙◌}
use mathlib.Core.List.{List, ◌++◌}
use native.Mathlib.Omega.{arith}
use lib.ListN.{drop}
use Rattle.octets.proofs.PartLaws.{grown}
use Rattle.plain_blocks.specs.Figure7.{picked_block, picked_blocks}
use Rattle.plain_blocks.proofs.Figure7Laws.{block_length, blocks_length, blocks_none, blocks_more}
use Rattle.plain_blocks.proofs.pick_blocks.Goals as goal

pub loop-b-init : goal.loop-b-init
loop-b-init c = ap (λ (l : List ℕ). l ++ c.args.voice.now) (sym (blocks_none _ _))

pub loop-b-preserved : goal.loop-b-preserved
loop-b-preserved c =
    let a = c.args in
    let l = c.loop-b in
    let q = c.pick_block in
    let S = a.s in
    let on : 16 * l.b + 16 ≡ 16 * (l.b + 1) = omega arith in
    let xs = a.samples.now in
    grown (picked_blocks S xs l.b) (picked_block S xs l.b) a.voice.now l.voice q.new.block (16 * l.b) 16 (blocks_length S xs l.b) (block_length S xs l.b) l.invariant q.ensures
    ∙ ap₂ (λ (x : List ℕ) (n : ℕ). x ++ drop n a.voice.now) (blocks_more S xs l.b) on

pub returns : goal.returns
returns c =
    let a = c.args in
    let l = c.loop-b in
    l.invariant ∙ ap (λ (n : ℕ). picked_blocks a.s a.samples.now n ++ drop (16 * n) a.voice.now) (omega arith)
