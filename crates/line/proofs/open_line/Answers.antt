use Rattle.line.proofs.MoreLaws.{open_empty, open_more}
use Rattle.line.proofs.open_line.Goals as goal

pub returns-then-count-eq0 : goal.returns-then-count-eq0
returns-then-count-eq0 c =
    let a = c.args in
    let none = c.none.ensures in
    rw (none.at, none.bits, none.none) (open_empty a.line.now a.count c.if-count-eq0.true c.requires.1)

pub invariant_of-result : goal.invariant_of-result
invariant_of-result c =
    let a = c.args in
    let m = open_more a.line.now a.count c.window.result c.if-count-eq0.false c.requires.0 c.window.ensures in
    record { few = m.short; fit = m.fits }

pub returns : goal.returns
returns c =
    let a = c.args in
    open_more a.line.now a.count c.window.result c.if-count-eq0.false c.requires.0 c.window.ensures
