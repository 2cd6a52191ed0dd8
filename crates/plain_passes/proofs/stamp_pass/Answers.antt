-- `stamp_pass` meets its contract.
use Rattle.std.proofs.Common.{◌≡◌, ◌+◌, min, set, ap, arith}
use Rattle.octets.specs.Octets.{octet}
use Rattle.plain_passes.specs.Passes.{stamp_pass}
use Rattle.plain_passes.proofs.stamp_pass.Goals as goal

pub returns : goal.returns
unfolding stamp_pass
returns c =
    let a = c.args in
    let stamp : c.min.result ≡ min 200 (octet 6 a.out.now + a.wait) = omega arith in
    ap (set a.out.now 5) stamp
