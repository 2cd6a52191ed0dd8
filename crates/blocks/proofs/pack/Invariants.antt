use mathlib.Core.Path.{◌≡◌}
use Rattle.blocks.specs.Blocks.{packed}
use Rattle.blocks.proofs.pack.Given as goal

abbrev pub invariant-loop-b : goal.invariant-loop-b
invariant-loop-b l = l.frame ≡ packed l.initial.frame l.samples l.s l.b
