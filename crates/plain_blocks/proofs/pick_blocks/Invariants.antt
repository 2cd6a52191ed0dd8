-- `pick_blocks` meets its contract: the blocks picked so far, and the rest as it came.
use Prim.Native.Nat.{◌*◌}
use mathlib.Core.Path.{◌≡◌}
use mathlib.Core.List.{◌++◌}
use lib.ListN.{drop}
use Rattle.plain_blocks.specs.Figure7.{picked_blocks}
use Rattle.plain_blocks.proofs.pick_blocks.Given as goal

abbrev pub invariant-loop-b : goal.invariant-loop-b
invariant-loop-b l = l.voice ≡ picked_blocks l.s l.samples l.b ++ drop (16 * l.b) l.initial.voice
