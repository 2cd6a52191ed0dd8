-- `bits::word` meets its contract: the octets with zeros behind them make the number that the octets make.
use borrow.Author.Rules.{rules}
use Rattle.bits.proofs.BitLaws.{word_is}
use Rattle.bits.proofs.word.Goals as goal

pub returns : goal.returns
returns c = word_is c.args.octets.now c.copy_from_slice.new.self c.requires (search rules) c.copy_from_slice.ensures.after c.from_le_bytes.ensures
