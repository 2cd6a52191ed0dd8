-- `fcs::fcs` meets its contract: the octets that are left make of the register, once 64 zero bits are fed to it, what all of them make of the preset.
use Prim.Native.Nat.{ℕ, ◌-◌}
use mathlib.Core.Path.{ap, ◌∙◌}
use native.Mathlib.Omega.{arith}
use Rattle.fcs.specs.Fcs.{fcs_bits, fcs_run, fcs_of}
use Rattle.fcs.proofs.FoldLaws.{first_eight, next_eight, run_eight}
use Rattle.fcs.proofs.fcs.Goals as goal

pub returns-in_default : goal.returns-in_default
unfolding fcs_of
returns-in_default c = ap (λ (x : ℕ). 65535 - x) c.rest.ensures

pub loop-next-init : goal.loop-next-init
loop-next-init c =
    let a = c.in-Some in
    run_eight c.args.s.now a.first.now a.left.now 65535 _ a.ensures.cases.0 a.ensures.cases.1 (first_eight a.first.now c.eight-reg.result (omega arith) c.eight-reg.ensures)

pub loop-next-preserved : goal.loop-next-preserved
loop-next-preserved c =
    let l = c.loop-next in
    let a = c.in-Some-split_first_chunk in
    run_eight l.left.now a.next.now a.behind.now (fcs_bits 64 l.reg 0) _ a.ensures.cases.0 a.ensures.cases.1
    (next_eight a.next.now l.reg c.folded_64.result c.eight.result (omega arith) c.folded_64.ensures c.eight.ensures)
    ∙ l.invariant

pub returns : goal.returns
unfolding fcs_of
returns c =
    let l = c.loop-next in
    ap (λ (x : ℕ). 65535 - x) (c.rest-2.ensures ∙ ap (λ (z : ℕ). fcs_run z l.left.now) c.ended_64.ensures ∙ l.invariant)
