use mathlib.Core.Path.{◌≡◌, refl, ap, ◌∙◌}
use mathlib.Core.List.{◌++◌}
use Prim.Native.Nat.{ℕ, ◌+◌, ◌*◌, ◌-◌}
use native.Mathlib.Omega.{arith}
use borrow.Rule.Slice.PartMut.{same_len_mid}
use lib.ListN.{drop, replicate}
use Rattle.octets.specs.Octets.{tab}
use Rattle.blocks.proofs.RiffleLaws.{taken, rows_riffled, taken_all, rows_more}
use Rattle.blocks.proofs.riffle_rows.Goals as goal

pub loop-row-init : goal.loop-row-init
unfolding tab
loop-row-init c = record { len = refl; done = refl }

pub loop-row-preserved : goal.loop-row-preserved
loop-row-preserved c =
    let a = c.args in
    let l = c.loop-row in
    let part = c.copy_from_slice in
    record {
      len = same_len_mid (16 * l.row) (16 * l.row + 16 - 16 * l.row) l.to part.new.self part.auto.self ∙ l.invariant.len;
      done = rows_more a.from.now _ l.to part.new.self l.row (omega arith) l.invariant.len (omega arith) l.invariant.done part.ensures.after;
    }

pub returns : goal.returns
returns c =
    let a = c.args in
    let l = c.loop-row in
    let e : l.row ≡ 8 = omega arith in
    l.invariant.done ∙ ap (λ (n : ℕ). tab (taken rows_riffled a.from.now) (16 * n) ++ drop (16 * n) (replicate 128 0)) e ∙ taken_all (taken rows_riffled a.from.now) (replicate 128 0) refl
