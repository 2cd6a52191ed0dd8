use mathlib.Core.Path.{◌≡◌, refl, ap, ◌∙◌}
use mathlib.Core.List.{◌++◌}
use Prim.Native.Nat.{ℕ, ◌*◌}
use native.Mathlib.Omega.{arith}
use lib.ListN.{drop, length-set, replicate}
use Rattle.octets.specs.Octets.{tab}
use Rattle.blocks.proofs.RiffleLaws.{taken, riffled, taken_all, riffle_more}
use Rattle.blocks.proofs.riffle.Goals as goal

pub loop-i-init : goal.loop-i-init
unfolding tab
loop-i-init c = record { len = refl; done = refl }

pub loop-i-preserved : goal.loop-i-preserved
loop-i-preserved c =
    let a = c.args in
    let l = c.loop-i in
    record { len = simp length-set l.invariant.len; done = rw l.invariant.done (riffle_more a.from.now _ l.i (omega arith)) }

pub returns : goal.returns
returns c =
    let a = c.args in
    let l = c.loop-i in
    let e : l.i ≡ 64 = omega arith in
    l.invariant.done ∙ ap (λ (n : ℕ). tab (taken riffled a.from.now) (2 * n) ++ drop (2 * n) (replicate 128 0)) e ∙ taken_all (taken riffled a.from.now) (replicate 128 0) refl
