-- `walk` is safe: the buffer has ten octets.
use Rattle.std.proofs.Common.{arith}
use Rattle.plain_passes.proofs.PassLaws.{drop_length}
use Rattle.plain_print.proofs.walk.Goals as goal

pub stamp_pass-requires : goal.stamp_pass-requires
stamp_pass-requires g c = (c.wait_between.ensures.1, omega (arith, c.requires.2, c.from.ensures, drop_length c.args.hop.level c.args.frame.now c.requires.0))

pub address_pass-requires : goal.address_pass-requires
address_pass-requires g c = (omega arith, omega (arith, c.requires.2, c.from.ensures, drop_length c.args.hop.level c.args.frame.now c.requires.0))

pub seal_pass-requires : goal.seal_pass-requires
seal_pass-requires g c = omega (arith, c.requires.2, c.from.ensures, drop_length c.args.hop.level c.args.frame.now c.requires.0)
