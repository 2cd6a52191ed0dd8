use mathlib.Core.Path.{◌≡◌, refl, sym, ap, ◌∙◌, subst}
use mathlib.Core.List.{List}
use Prim.Native.Nat.{ℕ, ◌+◌, ◌*◌, ◌≤◌, ◌<◌, ◌-◌}
use native.Mathlib.Numerals.{add-one}
use native.Mathlib.Omega.{arith}
use borrow.Author.Rules.{rules}
use mir.Syntax.{w8}
use mir.Val.{Fits}
use borrow.Rule.Slice.PartMut.{mid_of}
use lib.Seq.{get_or-drop}
use lib.ListN.{length, get_or, drop, length-drop}
use Rattle.blocks.specs.Blocks.{samples, weight}
use Rattle.octets.proofs.PartLaws.{tail_of}
use Rattle.blocks.proofs.PlaneLaws.{Turned}
use Rattle.blocks.proofs.ReadLaws.{row_to, row_put, row_length, turned_none, turned_more, turned_back}
use Rattle.blocks.proofs.read_blocks.Goals as goal

pub loop-b-init : goal.loop-b-init
loop-b-init c = let a = c.args in record { len = refl; turned = turned_none (drop 8 a.frame.now) a.s }

pub add_block-requires : goal.add_block-requires
add_block-requires c =
    let l = c.loop-b in
    (rw (tail_of, length-drop) (omega arith), omega arith)

pub loop-b-preserved : goal.loop-b-preserved
loop-b-preserved c =
    let a = c.args in
    let l = c.loop-b in
    let q = c.add_block in
    let v : List ℕ = drop 8 a.frame.now in
    let at : ℕ = 8 + 16 * l.b in
    let part : List ℕ = drop at a.frame.now in
    let w : ℕ = weight a.s l.b in
    let room : 16 ≤ length part = rw length-drop (omega arith) in
    let inside : 16 * w + 16 ≤ length l.planes = omega arith in
    let after : q.new.planes ≡ row_to l.planes part (16 * w) 16 = row_put l.planes part (mid_of at (length a.frame.now - at) a.frame.now) q.new.planes w q.ensures (tail_of at a.frame.now) in
    let same : (j : ℕ) → j < 16 → get_or part j 0 ≡ get_or v (16 * l.b + j) 0 =
    λ j h. get_or-drop at a.frame.now j 0 ∙ ap (λ (n : ℕ). get_or a.frame.now n 0) (omega arith) ∙ sym (get_or-drop 8 a.frame.now (16 * l.b + j) 0) in
    record {
      len = ap length after ∙ row_length l.planes part w inside room ∙ l.invariant.len;
      turned = rw (after, add-one) (turned_more v l.planes part a.s l.b (omega arith) (omega arith) l.invariant.turned l.invariant.len room same);
    }

pub returns : goal.returns
returns c =
    let a = c.args in
    let l = c.loop-b in
    let r = c.from_planes in
    let octets : (i : ℕ) → Fits w8 (get_or r.result i 0) = λ i. search rules in
    let e : l.b ≡ a.present = omega arith in
    turned_back (drop 8 a.frame.now) l.planes r.result a.s a.present (omega arith) (omega arith)
    (subst (λ (n : ℕ). Turned (samples (drop 8 a.frame.now) a.s n) l.planes) e l.invariant.turned) r.ensures (search rules) octets
