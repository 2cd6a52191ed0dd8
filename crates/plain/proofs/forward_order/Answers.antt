-- `forward_order` meets its contract: a frame that is taken has 10 octets.
use Rattle.std.proofs.Common.{sym}
use Rattle.plain_order.proofs.OrderLaws.{taken_long}
use Rattle.plain.proofs.forward_order.Goals as goal

pub length_after-requires : goal.length_after-requires
length_after-requires c = (taken_long c.args.frame.now (sym c.in_ok-taken_order.ensures)).0
