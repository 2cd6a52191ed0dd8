use Prim.Native.Nat.{◌+◌, ◌*◌, ◌≤◌}
use mathlib.Core.Bool.{cond}
use mathlib.Core.Path.{◌≡◌, ap, ◌∙◌}
use native.Mathlib.Omega.{arith}
use lib.Dec.{eqb}
use lib.ListN.{length}
use lib.Seq.{slice}
use Rattle.bits.specs.Bits.{bits}
use Rattle.zeros.specs.Zeros.{stuff}
use Rattle.line.specs.Parts.{sent_as}
use Rattle.line.proofs.AddLaws.{taken, whole_frame, all_bits, begins_at, closes_at, written}
use Rattle.line.proofs.write.Goals as goal

pub open_line-first-requires : goal.open_line-first-requires
open_line-first-requires c =
    let t = taken c.args.line.now c.args.frame.now c.args.count c.requires in
    let some : 1 ≤ length c.args.line.now = omega (arith, t.room) in
    (t.counted, some)

pub overflow_mul-end : goal.overflow_mul-end
overflow_mul-end c = omega (arith, (taken c.args.line.now c.args.frame.now c.args.count c.requires).frame)

pub carry-last-requires : goal.carry-last-requires
carry-last-requires c =
    let a = c.args in
    let o = c.open_line-first in
    let t = taken a.line.now a.frame.now a.count c.requires in
    let all = all_bits a.frame.now t.frame in
    let first = o.ensures in
    let from : 8 * o.result.at + o.result.n ≡ cond (eqb a.count 0) 8 a.count =
    begins_at a.line.now o.new.line a.frame.now a.count c.requires o.result.at o.result.bits o.result.n first in
    let room : 8 * o.result.at + o.result.n + length (stuff 4 (slice 0 (8 * length a.frame.now) (bits a.frame.now))) ≤ 8 * length o.new.line =
    omega (arith, from, t.room, first.long, ap (λ b. length (stuff 4 b)) (whole_frame a.frame.now)) in
    (all.2, room)

-- where the closing flag begins, and that it has room there
pub close_line-requires : goal.close_line-requires
close_line-requires c =
    let a = c.args in
    let o = c.open_line-first in
    let k = c.carry-last in
    let t = taken a.line.now a.frame.now a.count c.requires in
    let e : 8 * k.result.at + k.result.n ≡ cond (eqb a.count 0) 8 a.count + length (sent_as a.frame.now) =
    closes_at a.line.now o.new.line a.frame.now a.count c.requires o.result.at o.result.bits o.result.n o.ensures
    k.new.out k.result.at k.result.bits k.result.n k.ensures in
    (omega (arith, t.room, k.ensures.long, o.ensures.long), omega (arith, t.countable))

pub returns : goal.returns
returns c =
    let a = c.args in
    let o = c.open_line-first in
    let k = c.carry-last in
    let r = c.close_line.ensures in
    let w =
    written a.line.now o.new.line a.frame.now a.count c.requires o.result.at o.result.bits o.result.n o.ensures
    k.new.out k.result.at k.result.bits k.result.n k.ensures _ r.buffer in
    record { answer = r.answer ∙ w.0; buffer = w.1 }
