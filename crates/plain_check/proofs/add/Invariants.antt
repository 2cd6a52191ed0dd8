-- `add` meets its contract: the places added so far.
use Rattle.std.proofs.Common.{◌≡◌, take}
use Rattle.plain_check.specs.Check.{added}
use Rattle.plain_check.proofs.add.Given as goal

abbrev pub invariant-loop-i : goal.invariant-loop-i
invariant-loop-i l = l.bits ≡ added (take l.i l.upper) l.initial.bits
