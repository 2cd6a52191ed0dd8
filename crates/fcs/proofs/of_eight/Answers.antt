-- `fcs::of_eight` meets its contract.
use Prim.Native.Nat.{ℕ, ◌-◌}
use mathlib.Core.Path.{ap, ◌∙◌}
use native.Mathlib.Omega.{arith}
use Rattle.fcs.specs.Fcs.{fcs_of}
use Rattle.fcs.proofs.FoldLaws.{first_eight}
use Rattle.fcs.proofs.of_eight.Goals as goal

pub returns : goal.returns
unfolding fcs_of
returns c = ap (λ (x : ℕ). 65535 - x) (c.ended_64.ensures ∙ first_eight c.args.octets.now c.eight.result (omega arith) c.eight.ensures)
