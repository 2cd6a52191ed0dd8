-- `fcs::rest` meets its contract: the octets that are left make of the register what all of them make of the first.
use mathlib.Core.Path.{◌≡◌}
use lib.ListN.{drop}
use Rattle.fcs.specs.Fcs.{fcs_run}
use Rattle.fcs.proofs.rest.Given as goal

abbrev pub invariant-loop-o : goal.invariant-loop-o
invariant-loop-o l = fcs_run l.reg (drop l.o-index l.s) ≡ fcs_run l.before l.s
