-- `endpoint::quiet` meets its contract.
use Prim.Native.Nat.{ℕ}
use mathlib.Core.Path.{ap, ◌∙◌}
use mathlib.Core.List.{List, ◌++◌}
use lib.ListN.{drop, replicate}
use lib.Seq.{length-take-le}
use Rattle.endpoint.proofs.quiet.Goals as goal

pub returns : goal.returns
returns c =
    let o = c.args.samples.now in
    ap (λ (l : List ℕ). l ++ drop 128 o) (c.fill.ensures.after (λ y e. e) ∙ ap (λ (n : ℕ). replicate n 0) (length-take-le 128 o c.requires))
