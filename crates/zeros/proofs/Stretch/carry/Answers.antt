-- `Stretch::carry` meets its contract: each turn pours a piece, and what is put and what is left are all.
use Prim.Native.Nat.{ℕ, ◌+◌}
use mathlib.Core.Bool.{Bool}
use mathlib.Core.List.{List}
use native.Mathlib.Omega.{arith}
use Rattle.bits.specs.Bits.{lowest}
use Rattle.bits.proofs.BitLaws.{length_lowest}
use Rattle.zeros.proofs.PourLaws.{become, poured_none, poured_all, poured_room, poured_more, some_within, some_is, become_none}
use Rattle.zeros.proofs.Stretch.carry.Goals as goal

pub loop-i-init : goal.loop-i-init
loop-i-init c =
    let a = c.args in
    (omega arith, poured_none a.out.now a.held.at a.held.bits a.held.n (become a.writing a.self.octets.now a.self.end a.self.begin) a.held.few a.held.fit)

pub put-held-requires : goal.put-held-requires
put-held-requires c =
    let a = c.args in
    let l = c.loop-i in
    let p = c.piece-piece.result in
    let q = c.piece-piece.ensures in
    let all : ℕ → List Bool = become a.writing a.self.octets.now a.self.end in
    let is = some_is a.writing a.self.octets.now a.self.end l.i p.bits p.n p.taken c.loop-i-test.true c.args.self.within q in
    let room = poured_room a.out.now l.out a.held.at a.held.bits a.held.n (all a.self.begin) (all l.i) (all (l.i + p.taken)) (lowest p.n p.bits) l.held.at l.held.bits l.held.n l.invariant.1 is c.requires.1 in
    (q.fits, q.short, omega (arith, room, length_lowest p.n p.bits))

pub overflow_add-i : goal.overflow_add-i
overflow_add-i c =
    let a = c.args in
    let p = c.piece-piece.result in
    omega (arith, some_within a.writing a.self.octets.now a.self.end c.loop-i.i p.bits p.n p.taken c.loop-i-test.true c.args.self.within c.piece-piece.ensures)

pub loop-i-smaller : goal.loop-i-smaller
loop-i-smaller c = omega (arith, c.piece-piece.ensures.on)

pub loop-i-preserved : goal.loop-i-preserved
loop-i-preserved c =
    let a = c.args in
    let l = c.loop-i in
    let p = c.piece-piece.result in
    let q = c.piece-piece.ensures in
    let r = c.put-held in
    let all : ℕ → List Bool = become a.writing a.self.octets.now a.self.end in
    let is = some_is a.writing a.self.octets.now a.self.end l.i p.bits p.n p.taken c.loop-i-test.true c.args.self.within q in (
      some_within a.writing a.self.octets.now a.self.end l.i p.bits p.n p.taken c.loop-i-test.true c.args.self.within q,
      poured_more a.out.now l.out a.held.at a.held.bits a.held.n (all a.self.begin) (all l.i) (all (l.i + p.taken)) (lowest p.n p.bits) l.held.at l.held.bits l.held.n l.invariant.1 is r.new.out r.result.at r.result.bits r.result.n r.ensures,
    )

pub returns : goal.returns
returns c =
    let a = c.args in
    let l = c.loop-i in
    let all : ℕ → List Bool = become a.writing a.self.octets.now a.self.end in
    poured_all a.out.now l.out a.held.at a.held.bits a.held.n (all a.self.begin) (all l.i) l.held.at l.held.bits l.held.n l.invariant.1
    (become_none a.writing a.self.octets.now a.self.end l.i c.loop-i-test.false)
