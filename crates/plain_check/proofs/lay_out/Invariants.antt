-- `lay_out` meets its contract: the places filled so far, and the rest as it came.
use Rattle.plain_check.proofs.WalkLaws.{message_bit}
use Rattle.plain_check.proofs.FillLaws.{Filled}
use Rattle.plain_check.proofs.lay_out.Given as goal

abbrev pub invariant-loop-i : goal.invariant-loop-i
invariant-loop-i l = Filled (message_bit l.message) l.initial.bits l.i l.bits
