-- `fcs::ended_32` meets its contract: sixteen bits twice.
use mathlib.Core.Path.{ap}
use Prim.Native.Nat.{ℕ}
use Rattle.fcs.specs.Fcs.{fcs_bits}
use Rattle.fcs.proofs.FoldLaws.{twice}
use Rattle.fcs.proofs.ended_32.Goals as goal

pub returns : goal.returns
returns c =
    let low = c.sixteen-low in
    twice 16 c.args.a low.result (ap (λ (z : ℕ). fcs_bits 16 z 0) low.ensures) c.sixteen.ensures
