-- `link_order` meets its contract: the length has been judged before the check.
use Rattle.std.proofs.Common.{sym, ◌∙◌}
use Rattle.plain_order.proofs.OrderLaws.{length_right}
use Rattle.plain_order.proofs.link_order.Goals as goal

pub check_wrong-requires : goal.check_wrong-requires
check_wrong-requires c = length_right c.args.frame.now (sym c.length_wrong.ensures ∙ c.if-length_wrong.false)
