-- `drop_pass` meets its contract: the front and the check are copied, and octet 5 is set.
use Rattle.std.proofs.Common.{ℕ, ◌-◌, ◌++◌, List, drop, length, sym, refl, ◌∙◌, ap₂, arith, length-take, length-take-le}
use borrow.Rule.Slice.PartMut.{same_len_mid}
use Rattle.octets.proofs.PartLaws.{tail_length}
use Rattle.plain_passes.proofs.PassLaws.{drop_length, copied, drop_put}
use Rattle.plain_passes.proofs.drop_pass.Goals as goal

pub overflow_sub-kept : goal.overflow_sub-kept
overflow_sub-kept c = omega (arith, drop_length c.args.level c.args.frame.now c.requires.0)

pub slice_bounds-copy_from_slice-end-3 : goal.slice_bounds-copy_from_slice-end-3
slice_bounds-copy_from_slice-end-3 c =
    let a = c.args in
    sym (length-take-le (length a.out.now - 2) a.frame.now (omega (arith, drop_length a.level a.frame.now c.requires.0)))

pub copy_from_slice-requires : goal.copy_from_slice-requires
copy_from_slice-requires c =
    let a = c.args in
    simp length-take (omega (arith, drop_length a.level a.frame.now c.requires.0))

pub copy_from_slice-requires-2 : goal.copy_from_slice-requires-2
copy_from_slice-requires-2 c =
    let a = c.args in
    let h = c.copy_from_slice.new.self in
    let kept : ℕ = length a.out.now - 2 in
    let e = copied a.level a.frame.now c.requires.0 a.out.now h kept c.requires.1 refl c.copy_from_slice.ensures.len in
    tail_length kept (h ++ drop kept a.out.now) ∙ omega (arith, e.0, e.1) ∙ sym (tail_length (length a.frame.now - 2) a.frame.now)

pub bounds-out-4 : goal.bounds-out-4
bounds-out-4 c =
    let a = c.args in
    let h = c.copy_from_slice.new.self in
    let p = c.copy_from_slice-2.new.self in
    let kept : ℕ = length a.out.now - 2 in
    let x : List ℕ = h ++ drop kept a.out.now in
    let e = copied a.level a.frame.now c.requires.0 a.out.now h kept c.requires.1 refl c.copy_from_slice.ensures.len in
    omega (arith, same_len_mid kept (length x - kept) x p c.copy_from_slice-2.ensures.len, e.1, drop_length a.level a.frame.now c.requires.0)

pub returns : goal.returns
returns c =
    let a = c.args in
    drop_put a.level a.frame.now c.requires.0 a.out.now c.copy_from_slice.new.self c.copy_from_slice-2.new.self c.saturating_sub.result (length a.out.now - 2) (length a.frame.now - 2)
    c.requires.1 refl refl (c.saturating_sub.ensures ∙ ap₂ (λ (y z : ℕ). y - z) c.from.ensures c.blocks_dropped.ensures.0) c.copy_from_slice.ensures.after c.copy_from_slice-2.ensures.after
