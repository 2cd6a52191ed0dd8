use Rattle.std.proofs.Common.{arith}
use lib.Seq.{length-take-le}
use Rattle.endpoint.proofs.hear_into.Goals as goal

pub copy_from_slice-requires : goal.copy_from_slice-requires
copy_from_slice-requires g c = omega (arith, length-take-le 128 c.args.samples.now c.requires.1)
