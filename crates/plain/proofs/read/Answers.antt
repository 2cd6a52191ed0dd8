-- `read` meets its contract: a frame that is not refused has octets 1 to 8, and a word at most 8 bits.
use Rattle.std.proofs.Common.{arith, sym}
use Rattle.coding.proofs.CodingLaws.{s_le_8}
use Rattle.plain.proofs.PlainLaws.{read_long}
use Rattle.plain.proofs.read.Goals as goal

pub slice_bounds-read_words-start : goal.slice_bounds-read_words-start
slice_bounds-read_words-start c = omega (arith, read_long c.args.frame.now (sym c.in_ok-read_order.ensures))

pub slice_bounds-read_words-count : goal.slice_bounds-read_words-count
slice_bounds-read_words-count c = omega (arith, read_long c.args.frame.now (sym c.in_ok-read_order.ensures))

pub read_words-requires : goal.read_words-requires
read_words-requires c = omega (arith, s_le_8 c.coding_of.result.0)
