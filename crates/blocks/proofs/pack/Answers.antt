use mathlib.Core.Path.{◌≡◌, sym, ap, ◌∙◌}
use mathlib.Core.List.{List, ◌++◌}
use Prim.Native.Nat.{ℕ, ◌+◌, ◌*◌, ◌≤◌, ◌-◌}
use native.Mathlib.Omega.{arith}
use borrow.Author.Rules.{rules}
use lib.ListN.{length, get_or, drop}
use mir.Syntax.{w8}
use mir.Val.{Fits}
use borrow.Rule.Slice.PartMut.{mid_of}
use Rattle.blocks.specs.Blocks.{block}
use Rattle.octets.proofs.PartLaws.{tail_of, tail_put}
use Rattle.blocks.proofs.BlocksLaws.{packed_none, packed_more}
use Rattle.blocks.proofs.PlaneLaws.{block_put}
use Rattle.blocks.proofs.pack.Goals as goal

pub loop-b-init : goal.loop-b-init
loop-b-init c = sym (packed_none _ _ _)

pub loop-b-preserved : goal.loop-b-preserved
loop-b-preserved c =
    let l = c.loop-b in
    let t = c.to_planes-planes in
    let a = c.args in
    let q = c.pack_block in
    let octets : (i : ℕ) → Fits w8 (get_or t.result i 0) = λ i. search rules in
    let at : ℕ = 8 + 16 * l.b in
    let fits : at + 16 ≤ length l.frame = omega arith in
    let whole : c.unwrap-samples.result.now ≡ a.samples.now = (rw c.unwrap-samples.ensures at c.try_into.ensures).1.same in
    tail_put at l.frame q.new.part (omega arith)
    ∙ packed_more a.frame.now a.samples.now a.s l.b l.frame q.new.part (omega arith) l.invariant
    (block_put a.samples.now t.result (mid_of at (length l.frame - at) l.frame) q.new.part (a.s - 1 - l.b) (rw whole at t.ensures) (search rules) octets (omega arith) q.ensures
    ∙ ap (λ (rest : List ℕ). block a.samples.now (a.s - 1 - l.b) ++ drop 16 rest) (tail_of at l.frame))

pub returns : goal.returns
returns c =
    let e : c.loop-b.b ≡ c.args.blocks = omega arith in
    c.loop-b.invariant ∙ rw e
