use Prim.Native.Nat.{ℕ, ◌+◌, ◌-◌, ◌*◌, ◌%◌}
use mathlib.Core.Path.{◌≡◌, sym, ap, ap₂, ◌∙◌}
use native.Mathlib.Omega.{arith}
use lib.Dec.{ltb}
use lib.ListN.{get_or}
use Rattle.ring.proofs.SumLaws.{added_to, added_none, added_more, added_all, one_of, weighed}
use Rattle.ring.proofs.sum_used.Goals as goal

pub loop-i-init : goal.loop-i-init
loop-i-init c = let a = c.args in let p = c.requires in (sym (added_none a.first a.count a.slots.now p.0.all p.1 p.2), omega arith)

pub loop-i-preserved : goal.loop-i-preserved
loop-i-preserved c =
    let l = c.loop-i in
    let a = c.args in
    let p = c.requires in
    let one = c.from-counts.ensures ∙ one_of (ltb ((l.i + 32 - a.first) % 32) a.count) in
    let t = weighed (get_or a.slots.now l.i 0) c.from-counts.result (ltb ((l.i + 32 - a.first) % 32) a.count) (p.0.octets l.i) one in (
      ap₂ ◌+◌ l.invariant.0 (ap (λ (r : ℕ). get_or a.slots.now l.i 0 * r) one) ∙ added_more a.first a.count a.slots.now p.0.all p.1 p.2 l.i (omega arith),
      omega arith,
    )

pub returns : goal.returns
returns c =
    let l = c.loop-i in
    let a = c.args in
    let p = c.requires in
    let e : l.i ≡ 32 = omega arith in
    (l.invariant.0 ∙ ap (added_to a.first a.count a.slots.now) e ∙ added_all a.first a.count a.slots.now p.0.all p.1 p.2, omega arith)
