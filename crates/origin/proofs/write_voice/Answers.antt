use Prim.Native.Nat.{◌-◌}
use mathlib.Core.Path.{ap₂, ◌∙◌}
use native.Mathlib.Omega.{arith}
use lib.ListN.{length}
use Rattle.coding.proofs.CodingLaws.{s_le_8, not_reserved}
use Rattle.blocks.proofs.BlocksLaws.{fit_length}
use Rattle.origin.proofs.SendLaws.{inside_low, head_eight, SendTaken, send_taken, enough_room, sent_length, made_by_step, written_in}
use Rattle.origin.proofs.BurstLaws.{sequence_le, more_le}
use Rattle.origin.proofs.write_voice.Goals as goal

pub made_head-made-requires : goal.made_head-made-requires
made_head-made-requires c =
    let known : SendTaken c.args.sseq c.args.packet.step c.args.packet.coding.0 c.args.packet.noise c.args.samples.now c.args.level c.args.wait c.args.address (length c.args.out.now) =
    send_taken c.args.sseq c.args.packet.step c.args.packet.coding.0 c.args.packet.noise c.args.samples.now c.args.level c.args.wait c.args.address (length c.args.out.now) c.requires.0 in
    let s = c.before in
    let a = s.args in
    let k = known in
    ((not_reserved a.packet.coding.0 k.known).1, rw c.more_sent.ensures (more_le a.packet.step), rw c.sequence_sent.ensures (sequence_le a.packet.step a.sseq k.in_record), k.quiet, inside_low a.address k.inside)

pub put_head-requires : goal.put_head-requires
put_head-requires c =
    let known : SendTaken c.args.sseq c.args.packet.step c.args.packet.coding.0 c.args.packet.noise c.args.samples.now c.args.level c.args.wait c.args.address (length c.args.out.now) =
    send_taken c.args.sseq c.args.packet.step c.args.packet.coding.0 c.args.packet.noise c.args.samples.now c.args.level c.args.wait c.args.address (length c.args.out.now) c.requires.0 in
    let m = c.before in
    let s = m.before in
    let a = s.args in
    let k = known in
    let eight = head_eight a.address a.packet.coding.0 m.more_sent.result m.sequence_sent.result a.packet.noise m.made_head-made.result m.made_head-made.ensures in
    (eight, s.requires.1, inside_low a.address k.inside, omega (arith, enough_room a.sseq a.packet.step a.packet.coding.0 a.packet.noise a.samples.now a.level a.wait a.address (length a.out.now) k))

pub pack-requires : goal.pack-requires
pack-requires c =
    let known : SendTaken c.args.sseq c.args.packet.step c.args.packet.coding.0 c.args.packet.noise c.args.samples.now c.args.level c.args.wait c.args.address (length c.args.out.now) =
    send_taken c.args.sseq c.args.packet.step c.args.packet.coding.0 c.args.packet.noise c.args.samples.now c.args.level c.args.wait c.args.address (length c.args.out.now) c.requires.0 in
    let s = c.before in
    let a = s.args in
    let k = known in
    (omega (arith, enough_room a.sseq a.packet.step a.packet.coding.0 a.packet.noise a.samples.now a.level a.wait a.address (length a.out.now) k), fit_length a.samples.now _ k.fit, omega arith, omega (arith, s_le_8 a.packet.coding.0))

pub seal-requires : goal.seal-requires
seal-requires c =
    let known : SendTaken c.args.sseq c.args.packet.step c.args.packet.coding.0 c.args.packet.noise c.args.samples.now c.args.level c.args.wait c.args.address (length c.args.out.now) =
    send_taken c.args.sseq c.args.packet.step c.args.packet.coding.0 c.args.packet.noise c.args.samples.now c.args.level c.args.wait c.args.address (length c.args.out.now) c.requires.0 in
    let s = c.before in
    let a = s.args in
    omega (arith, enough_room a.sseq a.packet.step a.packet.coding.0 a.packet.noise a.samples.now a.level a.wait a.address (length a.out.now) (known))

pub returns : goal.returns
returns c =
    let a = c.args in
    let s = c.from-s in
    let kept = c.saturating_sub-kept in
    let es = s.ensures ∙ c.sample_bits.ensures in
    let ek = kept.ensures ∙ ap₂ ◌-◌ es c.dropped_of.ensures in
    let m = c.made_head-made in
    let more = c.more_sent in
    let seq = c.sequence_sent in
    let h = c.put_head in
    let p = c.pack in
    let q = c.seal in (
      omega (arith, sent_length a.sseq a.packet.step a.packet.coding.0 a.packet.noise a.samples.now a.level a.wait a.address, ek),
      written_in a.sseq a.packet.step a.packet.coding.0 a.packet.noise a.samples.now a.level a.wait a.address a.out.now m.result h.new.out p.new.frame q.new.out s.result kept.result
          (made_by_step a.sseq a.packet.step a.packet.coding.0 a.packet.noise a.samples.now a.level a.wait a.address m.result more.result seq.result more.ensures seq.ensures m.ensures) es ek h.ensures p.ensures q.ensures,
    )
