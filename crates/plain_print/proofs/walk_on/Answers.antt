-- `walk_on` is safe: what it lends of its buffer is as long as the frame that is sent on.
use Rattle.std.proofs.Common.{arith, sym, ◌∙◌, ◌≤◌, length-take-le}
use Rattle.plain_passes.proofs.PassLaws.{drop_length}
use Rattle.plain_print.proofs.walk_on.Goals as goal

pub slice_bounds-out-end : goal.slice_bounds-out-end
slice_bounds-out-end g c = omega (arith, c.length_after-n.ensures, drop_length c.from.result c.args.frame.now c.requires.0)

pub slice_bounds-walk-end : goal.slice_bounds-walk-end
slice_bounds-walk-end g c =
    let size : c.length_after-n.result ≤ 138 = omega (arith, c.length_after-n.ensures, drop_length c.from.result c.args.frame.now c.requires.0) in
    sym (length-take-le _ _ (omega (arith, size)))

pub walk-requires : goal.walk-requires
walk-requires g c =
    let size : c.length_after-n.result ≤ 138 = omega (arith, c.length_after-n.ensures, drop_length c.from.result c.args.frame.now c.requires.0) in
    (c.requires.0, c.requires.2, rw (sym c.from.ensures) (length-take-le _ _ (omega (arith, size)) ∙ c.length_after-n.ensures))
