use mathlib.Core.Path.{◌≡◌, ◌∙◌}
use mathlib.Core.Bool.{cond}
use lib.Dec.{eqb}
use Rattle.line.proofs.AddLaws.{by_room, begin_first, begin_behind}
use Rattle.line.proofs.add_refusal.Goals as goal
use Rattle.line.proofs.add_refusal.Goals.{then-count-eq0, else-count-eq0}

pub returns : goal.returns
returns c =
    let a = c.args in
    let begins : c.if-count-eq0.begin ≡ cond (eqb a.count 0) 8 a.count =
    elim c.if-count-eq0.branch [
      | then-count-eq0 w ↦ w.begin-is ∙ begin_first a.count w.if-count-eq0.true
      | else-count-eq0 w ↦ w.begin-is ∙ begin_behind a.count w.if-count-eq0.false
    ] in
    by_room a.line.now a.frame.now a.count c.if-count-eq0.begin _ c.past.result c.no_room.result c.past.ensures c.in_ok-refuse.ensures c.in_ok-refusal_1.ensures begins c.no_room.ensures c.refuse-2.ensures
