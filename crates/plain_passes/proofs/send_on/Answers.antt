-- `send_on` meets its contract: the passes in the front of the buffer.
use Rattle.std.proofs.Common.{ℕ, List, ◌++◌, drop, sym, ap, ◌∙◌, arith, length-take-le}
use Rattle.plain_passes.proofs.PassLaws.{passed_length}
use Rattle.plain_passes.proofs.send_on.Goals as goal

pub slice_bounds-all-end-2 : goal.slice_bounds-all-end-2
slice_bounds-all-end-2 c = sym (length-take-le c.length_after-length.result c.args.out.now (omega (arith, c.length_after-length.ensures)))

pub all-requires : goal.all-requires
all-requires c =
    let a = c.args in
    let n = c.length_after-length in
    (omega arith, omega arith, omega arith, length-take-le n.result a.out.now (omega (arith, n.ensures)) ∙ n.ensures)

pub returns : goal.returns
returns c =
    let a = c.args in
    let n = c.length_after-length in
    (n.ensures ∙ sym (passed_length a.level a.wait a.address a.frame.now c.requires.0), ap (λ (x : List ℕ). x ++ drop n.result a.out.now) c.all.ensures)
