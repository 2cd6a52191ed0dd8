-- Before each turn the first i numbers of the slice are those of the values.
use Rattle.std.proofs.Common.{◌≡◌, ◌++◌, take, drop}
use Rattle.card.proofs.put.Given as goal

abbrev pub invariant-loop-i : goal.invariant-loop-i
invariant-loop-i l = l.slot ≡ take l.i l.values ++ drop l.i l.initial.slot
