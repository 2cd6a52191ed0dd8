-- `divide` meets its contract: the lines still to come, from the leading bit on, give what all of them give.
use Rattle.std.proofs.Common.{◌≡◌, ◌-◌, drop}
use Rattle.plain_check.specs.Check.{lines}
use Rattle.plain_check.proofs.divide.Given as goal

abbrev pub invariant-loop-leading : goal.invariant-loop-leading
invariant-loop-leading l = lines (l.leading-end - l.leading) (drop l.leading l.bits) ≡ lines l.leading-end l.initial.bits
