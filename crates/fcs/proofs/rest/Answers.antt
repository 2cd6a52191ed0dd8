-- `fcs::rest` meets its contract: the octets that are left make of the register what all of them make of the first.
use mathlib.Core.Path.{sym, ◌∙◌}
use native.Mathlib.Omega.{arith}
use Rattle.fcs.proofs.RunLaws.{run_next, run_end}
use Rattle.fcs.proofs.rest.Goals as goal

pub loop-o-preserved : goal.loop-o-preserved
loop-o-preserved c =
    let at = c.loop-o in
    run_next c.args.s.now at.o-index at.reg c.octet-reg.result (omega arith) c.octet-reg.ensures ∙ at.invariant

pub returns : goal.returns
returns c =
    let at = c.loop-o in
    sym (run_end c.args.s.now at.o-index at.reg (omega arith)) ∙ at.invariant
