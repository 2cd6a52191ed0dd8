-- `Stretch::sent_length` meets its contract: what is counted and what the rest becomes make the whole.
use Prim.Native.Nat.{◌+◌}
use mathlib.Core.Path.{sym, ap, ◌∙◌}
use mathlib.Core.Bool.{true}
use native.Mathlib.Nat.{add-zero}
use native.Mathlib.Omega.{arith}
use lib.ListN.{length}
use Rattle.zeros.proofs.PourLaws.{some_within, some_length, become_none}
use Rattle.zeros.proofs.Stretch.sent_length.Goals as goal

pub overflow_add-total : goal.overflow_add-total
overflow_add-total c =
    let a = c.args in
    let p = c.piece-piece.result in
    omega (arith, some_length true a.self.octets.now a.self.end c.loop-i.i p.bits p.n p.taken c.loop-i-test.true c.args.self.within c.piece-piece.ensures)

pub loop-i-preserved : goal.loop-i-preserved
loop-i-preserved c =
    let a = c.args in
    let i = c.loop-i.i in
    let p = c.piece-piece.result in (
      some_within true a.self.octets.now a.self.end i p.bits p.n p.taken c.loop-i-test.true c.args.self.within c.piece-piece.ensures,
      omega (arith, some_length true a.self.octets.now a.self.end i p.bits p.n p.taken c.loop-i-test.true c.args.self.within c.piece-piece.ensures),
    )

pub returns : goal.returns
returns c =
    let a = c.args in
    let l = c.loop-i in
    sym (add-zero l.total) ∙ ap (λ n. l.total + n) (sym (ap length (become_none true a.self.octets.now a.self.end l.i c.loop-i-test.false))) ∙ l.invariant.1
