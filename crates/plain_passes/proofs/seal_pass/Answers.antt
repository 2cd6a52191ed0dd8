-- `seal_pass` meets its contract.
use Rattle.std.proofs.Common.{◌-◌, ◌++◌, length, take, ap, ◌∙◌, arith}
use Rattle.octets.proofs.PartLaws.{tail_put}
use Rattle.plain_passes.specs.Passes.{seal_pass}
use Rattle.plain_passes.proofs.seal_pass.Goals as goal

pub returns : goal.returns
unfolding seal_pass
returns c =
    let l = c.args.out.now in
    let n = length l - 2 in
    tail_put n l c.copy_from_slice.new.self (omega arith) ∙ ap (λ r. take n l ++ r) (c.copy_from_slice.ensures.after ∙ c.check-check.ensures)
