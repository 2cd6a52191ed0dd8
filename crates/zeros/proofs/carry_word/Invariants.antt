-- `zeros::carry_word` meets its contract: each turn of the loop is `turn_five`, and what is left `turn_last`.
use Prim.Native.Nat.{◌-◌}
use Rattle.zeros.proofs.WordLaws.{Under}
use Rattle.zeros.proofs.carry_word.Given as goal

abbrev pub invariant-loop-taken : goal.invariant-loop-taken
invariant-loop-taken l = Under l.writing l.bits l.sure l.put l.w l.made l.n l.taken l.j

abbrev pub decreases-loop-taken : goal.decreases-loop-taken
decreases-loop-taken l = l.sure - l.taken
