use mathlib.Core.Path.{◌≡◌}
use lib.ListN.{length, drop}
use Rattle.blocks.specs.Blocks.{samples}
use Rattle.blocks.proofs.PlaneLaws.{Turned}
use Rattle.blocks.proofs.read_blocks.Given as goal

-- the planes are the samples of the first b blocks, turned over
abbrev pub invariant-loop-b : goal.invariant-loop-b
invariant-loop-b l = record { len : length l.planes ≡ 128; turned : Turned (samples (drop 8 l.frame) l.s l.b) l.planes }
