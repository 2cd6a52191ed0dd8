use mathlib.Core.Path.{◌≡◌}
use mathlib.Core.Bool.{◌&&◌}
use Prim.Native.Nat.{◌^◌}
use lib.ListN.{drop}
use Rattle.blocks.specs.Blocks.{all_below}
use Rattle.blocks.proofs.samples_fit.Given as goal

abbrev pub invariant-loop-x : goal.invariant-loop-x
invariant-loop-x l = (l.fit && all_below (2 ^ l.s) (drop l.x-index l.samples)) ≡ all_below (2 ^ l.s) l.samples
