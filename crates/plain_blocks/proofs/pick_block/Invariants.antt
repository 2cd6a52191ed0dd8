-- `pick_block` meets its contract: the octets picked so far, and the rest as it came.
use Rattle.std.proofs.Common.{ℕ, ◌+◌}
use Rattle.plain_check.proofs.FillLaws.{Filled}
use Rattle.plain_blocks.specs.Figure7.{picked_octet}
use Rattle.plain_blocks.proofs.pick_block.Given as goal

abbrev pub invariant-loop-j : goal.invariant-loop-j
invariant-loop-j l = Filled (λ (k : ℕ). picked_octet l.s l.samples l.b (k + 1)) l.initial.octet-items l.j l.octet-items
