-- `all` meets its contract: the passes one after another.
use Rattle.std.proofs.Common.{ap, ◌∙◌, arith}
use Rattle.plain_passes.specs.Passes.{stamp_pass, address_pass, seal_pass, passed}
use Rattle.plain_passes.proofs.PassLaws.{drop_length}
use Rattle.plain_passes.proofs.all.Goals as goal

pub stamp_pass-requires : goal.stamp_pass-requires
stamp_pass-requires c = (omega arith, omega (arith, drop_length c.args.level c.args.frame.now c.requires.0))

pub address_pass-requires : goal.address_pass-requires
address_pass-requires c = (omega arith, omega (arith, drop_length c.args.level c.args.frame.now c.requires.0))

pub seal_pass-requires : goal.seal_pass-requires
seal_pass-requires c = omega (arith, drop_length c.args.level c.args.frame.now c.requires.0)

pub returns : goal.returns
unfolding passed
returns c =
    let a = c.args in
    c.seal_pass.ensures ∙ ap seal_pass (c.address_pass.ensures ∙ ap (address_pass a.address) (c.stamp_pass.ensures ∙ ap (stamp_pass a.wait) c.drop_pass.ensures))
