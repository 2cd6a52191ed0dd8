-- `Stretch::plain_length` meets its contract: what is counted and what is still to be counted make the whole.
use Prim.Native.Nat.{◌+◌, ◌-◌}
use mathlib.Core.Path.{◌≡◌, sym, ◌∙◌}
use native.Mathlib.Nat.{le_refl}
use native.Mathlib.Omega.{arith}
use lib.ListN.{length}
use lib.Seq.{slice}
use Rattle.bits.specs.Bits.{bits}
use Rattle.zeros.specs.Zeros.{unstuff}
use Rattle.zeros.specs.Parts.{zero_behind, places}
use Rattle.zeros.proofs.CalmLaws.{calm_length}
use Rattle.bits.proofs.WindowLaws.{rest, length_rest, window_fits}
use Rattle.zeros.proofs.CountLaws.{count_more, count_last}
use Rattle.zeros.proofs.Stretch.plain_length.Goals as goal

-- a turn counts what begins at the first 51 places
turn : (c : goal.After-zeros_behind-out) → let a = c.args in let l = c.loop-i in
    l.out + c.zeros_behind-out.result + places zero_behind (rest a.self.octets.now a.self.end (l.i + 51)) ≡ places zero_behind (rest a.self.octets.now a.self.end a.self.begin)
turn c =
    let l = c.before in
    let s = l.before in
    let more =
    count_more s.args.self.octets.now s.args.self.end s.args.self.within l.loop-i.i 56 c.window.result c.zeros_behind-out.result (omega arith) c.window.ensures
    c.zeros_behind-out.ensures in
    omega (arith, more, l.loop-i.invariant.1)

-- with what is left at the end, all is counted
all : (c : goal.After-zeros_behind-last) → let a = c.args in
    a.self.end - a.self.begin ≡ length (unstuff 5 (slice a.self.begin a.self.end (bits a.self.octets.now))) + (c.loop-i.out + c.zeros_behind-last.result)
all c =
    let l = c.before in
    let s = l.before in
    let last =
    count_last s.args.self.octets.now s.args.self.end s.args.self.within l.loop-i.i (s.args.self.end - l.loop-i.i) c.window-2.result c.zeros_behind-last.result (omega arith)
    c.window-2.ensures c.zeros_behind-last.ensures (omega arith) in
    let whole : s.args.self.end - s.args.self.begin ≡ length (unstuff 5 (slice s.args.self.begin s.args.self.end (bits s.args.self.octets.now))) + places zero_behind (rest s.args.self.octets.now s.args.self.end s.args.self.begin) =
    sym (length_rest s.args.self.octets.now s.args.self.end s.args.self.within s.args.self.begin) ∙ calm_length (rest s.args.self.octets.now s.args.self.end s.args.self.begin) s.requires in
    omega (arith, whole, last, l.loop-i.invariant.1)

pub zeros_behind-out-requires : goal.zeros_behind-out-requires
zeros_behind-out-requires c =
    let l = c.before in
    let s = l.before in
    (le_refl 56, window_fits s.args.self.octets.now s.args.self.end 56 l.loop-i.i 56 c.window.result (omega arith) c.window.ensures)

pub overflow_add-out : goal.overflow_add-out
overflow_add-out c =
    let whole : let a = c.args in
    a.self.end - a.self.begin ≡ length (unstuff 5 (slice a.self.begin a.self.end (bits a.self.octets.now))) + places zero_behind (rest a.self.octets.now a.self.end a.self.begin) =
    let a = c.args in
    sym (length_rest a.self.octets.now a.self.end c.args.self.within a.self.begin) ∙ calm_length (rest a.self.octets.now a.self.end a.self.begin) c.requires in
    omega (arith, turn c, whole)

pub loop-i-preserved : goal.loop-i-preserved
loop-i-preserved c = (omega arith, turn c)

pub zeros_behind-last-requires : goal.zeros_behind-last-requires
zeros_behind-last-requires c =
    let l = c.before in
    let s = l.before in
    (omega arith, window_fits s.args.self.octets.now s.args.self.end 56 l.loop-i.i _ c.window-2.result (omega arith) c.window-2.ensures)

pub overflow_add-result : goal.overflow_add-result
overflow_add-result c = omega (arith, all c)

pub overflow_sub-result-2 : goal.overflow_sub-result-2
overflow_sub-result-2 c = omega (arith, all c)

pub returns : goal.returns
returns c = omega (arith, all c)
