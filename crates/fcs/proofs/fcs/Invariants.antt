-- `fcs::fcs` meets its contract: the octets that are left make of the register, once 64 zero bits are fed to it, what all of them make of the preset.
use mathlib.Core.Path.{◌≡◌}
use lib.ListN.{length}
use Rattle.fcs.specs.Fcs.{fcs_bits, fcs_run}
use Rattle.fcs.proofs.fcs.Given as goal

abbrev pub invariant-loop-next : goal.invariant-loop-next
invariant-loop-next l = fcs_run (fcs_bits 64 l.reg 0) l.left ≡ fcs_run 65535 l.s

abbrev pub decreases-loop-next : goal.decreases-loop-next
decreases-loop-next l = length l.left
