-- `from_origin` is safe: the longest frame has 138 octets.
use Rattle.std.proofs.Common.{arith, sym, ◌+◌, ◌*◌, length-take-le}
use Rattle.coding.proofs.CodingLaws.{s_le_8}
use Rattle.plain_walk.proofs.from_origin.Goals as goal

pub slice_bounds-frame-end : goal.slice_bounds-frame-end
slice_bounds-frame-end g c =
    sym (length-take-le (8 + 16 * c.from-s.result + 2) c.make.new.frame (omega (arith, c.from-s.ensures, c.sample_bits.ensures, s_le_8 c.args.coding.0)))
