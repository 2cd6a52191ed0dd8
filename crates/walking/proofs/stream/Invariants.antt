use Rattle.std.proofs.Common.{◌≤◌, length}
use Rattle.walking.proofs.stream.Given as goal

abbrev pub invariant-loop : goal.invariant-loop
invariant-loop g l = (l.flow.from ≤ l.flow.have) × (l.flow.have ≤ length l.initial.buffer) × (l.flow.end ≤ length l.initial.out)
