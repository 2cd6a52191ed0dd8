use Prim.Native.Nat.{◌+◌, ◌-◌, ◌≤◌, ◌<◌}
use mathlib.Core.Path.{◌∙◌}
use native.Mathlib.Omega.{arith}
use lib.ListN.{length, set}
use borrow.Rule.Slice.PartMut.{put_mid}
use Rattle.onward.specs.Onward.{wait_of}
use Rattle.onward.specs.Sent.{sent_paper}
use Rattle.tray.specs.Tray.{read}
use Rattle.tray.proofs.RecordLaws.{told_refusal, told_length}
use Rattle.tray.proofs.RunLaws.{Run, run_size, run_frame, run_next, run_over}
use Rattle.tray.proofs.forward_records.Goals as goal

-- the record that is next lies within what is left of the tray
here : (c : goal.After-two_octets) → (4 ≤ 2 + c.two_octets.result) × (2 + c.two_octets.result ≤ length c.loop-number.rest.now)
here c =
    let a = c.args in
    let h = a.hop in
    let l = c.loop-number in
    run_size h.level (wait_of h.from h.to) h.address a.tray.now a.out.now a.list.now l.out l.list l.rest.now l.written l.number-index l.invariant (omega (arith, c.loop-number-test.true, c.requires)) c.two_octets.result c.two_octets.ensures.0

-- its frame is sent on, or refused
next : (c : goal.After-unwrap_or-written)
    → Run c.args.hop.level (wait_of c.args.hop.from c.args.hop.to) c.args.hop.address c.args.tray.now c.args.out.now c.args.list.now
    (put_mid c.loop-number.written (length c.loop-number.out - c.loop-number.written) c.loop-number.out c.forward_record-sent.new.out)
    (set c.loop-number.list c.loop-number.number-index c.number_of.result)
    c.split_at.result.1.now
    (c.loop-number.written + c.unwrap_or-written.result)
    (c.loop-number.number-index + 1)
next c =
    let a = c.args in
    let h = a.hop in
    let l = c.loop-number in
    let n = c.two_octets in
    let w = c.forward_record-sent in
    let more : l.number-index < length (read a.tray.now).frames = omega (arith, c.loop-number-test.true, c.requires) in
    let f = run_frame h.level (wait_of h.from h.to) h.address a.tray.now a.out.now a.list.now l.out l.list l.rest.now l.written l.number-index l.invariant more n.result n.ensures.0 c.split_at.result.0.now c.split_at.ensures.front in
    run_next h.level (wait_of h.from h.to) h.address a.tray.now a.out.now a.list.now l.out l.list l.rest.now l.written l.number-index l.invariant more n.result n.ensures.0 _ c.split_at.result.1.now f c.split_at.ensures.back (sent_paper w.result) w.new.out w.ensures.answer w.ensures.buffer c.loop-number-test.true c.number_of.result c.unwrap_or-written.result (c.number_of.ensures ∙ told_refusal w.result) (c.unwrap_or-written.ensures ∙ told_length w.result)

pub split_at-requires : goal.split_at-requires
split_at-requires c = (here c).1

pub slice_bounds-forward_record-count : goal.slice_bounds-forward_record-count
slice_bounds-forward_record-count c =
    let a = c.args in
    let h = a.hop in
    let l = c.loop-number in
    let z = run_size h.level (wait_of h.from h.to) h.address a.tray.now a.out.now a.list.now l.out l.list l.rest.now l.written l.number-index l.invariant (omega (arith, c.loop-number-test.true, c.requires)) c.two_octets.result c.two_octets.ensures.0 in
    omega (arith, z.0, c.split_at.ensures.front_len)

pub slice_bounds-forward_record-start : goal.slice_bounds-forward_record-start
slice_bounds-forward_record-start c =
    let a = c.args in
    let h = a.hop in
    let l = c.loop-number in
    let z = run_size h.level (wait_of h.from h.to) h.address a.tray.now a.out.now a.list.now l.out l.list l.rest.now l.written l.number-index l.invariant (omega (arith, c.loop-number-test.true, c.requires)) c.two_octets.result c.two_octets.ensures.0 in
    omega (arith, z.0, c.split_at.ensures.front_len)

pub overflow_add-written : goal.overflow_add-written
overflow_add-written c = omega (arith, (next c).octets.room)

pub loop-number-preserved : goal.loop-number-preserved
loop-number-preserved c = next c

pub returns : goal.returns
returns c =
    let a = c.args in
    let h = a.hop in
    let l = c.loop-number in
    let o = run_over h.level (wait_of h.from h.to) h.address a.tray.now a.out.now a.list.now l.out l.list l.rest.now l.written l.number-index l.invariant (omega (arith, c.loop-number-test.false, c.requires)) (omega (arith, c.loop-number-test.false)) in
    record { written = o.0; buffer = o.1; list = o.2 }
