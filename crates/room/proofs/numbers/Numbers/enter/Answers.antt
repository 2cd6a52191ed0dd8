use Rattle.std.proofs.Common.{length}
use Rattle.ring.proofs.RingLaws.{place_below}
use Rattle.room.specs.Parts.{numbered}
use Rattle.room.proofs.EnterLaws.{let_in_by}
use Rattle.room.proofs.numbers.Numbers.enter.Goals as goal

pub returns-clause-fits : goal.returns-clause-fits
returns-clause-fits c =
    let a = c.args in
    let q = numbered a.self.now in
    let j = c.in_ok-used.ensures in
    let y = let_in_by (length a.store.now) q a.frame.now _ j c.in_ok-taken_refusal.ensures c.in_ok-refuse.ensures in
    (rw c.place_after-slot.ensures (place_below q.first q.count 32 y.inside.slot y.inside.few), c.droppable-blocks.ensures.1, y.few, y.short, y.inside.totals)
