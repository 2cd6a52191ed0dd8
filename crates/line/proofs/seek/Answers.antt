-- `line::seek` meets its contract: what is left to look for is what was asked for.
use Prim.Native.Nat.{◌+◌, ◌-◌}
use mathlib.Core.Path.{◌≡◌, refl, sym, ap, ◌∙◌}
use mathlib.Core.Bool.{Bool}
use mathlib.Core.List.{List}
use native.Mathlib.Nat.{add-zero, min_comm}
use native.Mathlib.Omega.{arith}
use lib.Count.{trailing_le}
use lib.ListN.{take, drop, length-take}
use Rattle.bits.specs.Bits.{bits}
use Rattle.bits.specs.Places.{until}
use Rattle.bits.proofs.UntilLaws.{until_end}
use Rattle.line.specs.Parts.{sought}
use Rattle.bits.proofs.WindowLaws.{window_fits}
use Rattle.line.proofs.SeekLaws.{found, passed}
use Rattle.line.proofs.seek.Goals as goal

pub loop-i-init : goal.loop-i-init
loop-i-init c = (c.requires.0, refl)

pub overflow_sub-count : goal.overflow_sub-count
overflow_sub-count c = c.loop-i.invariant.0

pub window-w-requires : goal.window-w-requires
window-w-requires c = (omega (arith, c.min-n.ensures), omega (arith, c.min-n.ensures, c.requires.1))

pub mark-requires : goal.mark-requires
mark-requires c =
    let l = c.before in
    let s = l.before in (
      omega (arith, c.min-n.ensures),
      window_fits s.args.line.now s.args.count 56 l.loop-i.i c.min-n.result c.window-w.result (c.min-n.ensures ∙ min_comm (s.args.count - l.loop-i.i) 56)
          c.window-w.ensures,
    )

pub overflow_cast-j : goal.overflow_cast-j
overflow_cast-j c = omega (arith, trailing_le 64 c.mark.result)

pub overflow_add-result : goal.overflow_add-result
overflow_add-result c =
    let m = c.before in
    let n = m.before in
    let l = n.before in
    let s = l.before in
    let f =
    found s.args.line.now s.args.count s.requires.1 l.loop-i.i n.min-n.result m.window-w.result n.min-n.ensures
    m.window-w.ensures s.args.what m.mark.result m.mark.ensures l.loop-i.invariant.0 c.if-j-lt40.true in
    omega (arith, f.1)

pub returns-then-j-lt40 : goal.returns-then-j-lt40
returns-then-j-lt40 c =
    let m = c.before in
    let n = m.before in
    let l = n.before in
    let s = l.before in
    let f =
    found s.args.line.now s.args.count s.requires.1 l.loop-i.i n.min-n.result m.window-w.result n.min-n.ensures
    m.window-w.ensures s.args.what m.mark.result m.mark.ensures l.loop-i.invariant.0 c.if-j-lt40.true in
    sym (l.loop-i.invariant.1 ∙ ap (◌+◌ l.loop-i.i) f.0)

pub overflow_add-i : goal.overflow_add-i
overflow_add-i c = omega (arith, c.min-i.ensures, c.min-n.ensures)

pub loop-i-smaller : goal.loop-i-smaller
loop-i-smaller c = omega (arith, c.min-i.ensures, c.min-n.ensures)

pub loop-i-preserved : goal.loop-i-preserved
loop-i-preserved c =
    let m = c.before in
    let n = m.before in
    let l = n.before in
    let s = l.before in (
      omega (arith, c.min-i.ensures, n.min-n.ensures),
      l.loop-i.invariant.1
          ∙ passed s.args.line.now s.args.count s.requires.1 l.loop-i.i n.min-n.result m.window-w.result n.min-n.ensures
          m.window-w.ensures s.args.what m.mark.result m.mark.ensures c.min-i.result c.min-i.ensures c.if-j-lt40.false,
    )

pub returns : goal.returns
returns c =
    let l = c.before in
    let a = l.args in
    let line : List Bool = take a.count (bits a.line.now) in
    let e : until (sought a.what) (drop l.loop-i.i line) ≡ 0 =
    until_end (sought a.what) line l.loop-i.i (omega (arith, length-take a.count (bits a.line.now))) in
    sym (l.loop-i.invariant.1 ∙ ap (◌+◌ l.loop-i.i) e ∙ add-zero l.loop-i.i)
