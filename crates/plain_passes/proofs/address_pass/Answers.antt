-- `address_pass` meets its contract.
use Rattle.std.proofs.Common.{◌+◌, ◌*◌, ◌/◌, ◌%◌, get_or, set, get_or-set_other, ap, arith}
use Rattle.plain_passes.specs.Passes.{address_pass}
use Rattle.plain_passes.proofs.address_pass.Goals as goal

pub returns : goal.returns
unfolding address_pass
returns c =
    let l = c.args.out.now in
    let v = c.args.address / 128 * 4 + get_or l 0 0 % 4 in
    ap (λ x. set (set l 0 v) 1 (c.args.address % 128 * 2 + x % 2)) (get_or-set_other l 0 1 v 0 (λ e. omega (arith, e)))
