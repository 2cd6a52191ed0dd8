-- `fcs::octet` meets its contract, by the law of the table at entries that are shifts.
use native.Mathlib.Omega.{arith}
use Rattle.fcs.proofs.FoldLaws.{shifts, by_shifts}
use Rattle.fcs.proofs.octet.Goals as goal

pub returns : goal.returns
unfolding shifts
returns c = rw c.from.ensures (by_shifts c.args.reg c.args.o (omega arith))
