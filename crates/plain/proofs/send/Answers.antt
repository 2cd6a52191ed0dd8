-- `send` meets its contract: refused, or the frame made and sent on.
use mathlib.Core.Path.{sym, ◌∙◌}
use native.Mathlib.Omega.{arith}
use lib.ListN.{length}
use Rattle.coding.proofs.CodingLaws.{s_le_8, not_reserved}
use Rattle.plain_packet.proofs.PacketLaws.{made_by, made_dropped, send_taken}
use Rattle.origin.specs.Burst.{sequence_sent, more_sent}
use Rattle.origin.proofs.BurstLaws.{sequence_le, more_le}
use Rattle.plain.proofs.send.Goals as goal

pub header-head-requires : goal.header-head-requires
header-head-requires c =
    let a = c.args in
    let p = a.packet in
    let t = send_taken a.sseq.now p.step p.coding.0 p.noise a.samples.now a.hop.level a.hop.address (length a.out.now) (sym c.in_ok-send_order.ensures) in
    ((not_reserved p.coding.0 t.known).1, omega (arith, c.more_sent.ensures, more_le p.step), omega (arith, c.sequence_sent-sequence.ensures, sequence_le p.step a.sseq.now t.in_record), t.quiet)

pub write-length-requires : goal.write-length-requires
write-length-requires c =
    let a = c.args in
    let p = a.packet in
    let t = send_taken a.sseq.now p.step p.coding.0 p.noise a.samples.now a.hop.level a.hop.address (length a.out.now) (sym c.in_ok-send_order.ensures) in
    let made =
    made_by p.coding.0 p.noise a.samples.now p.step a.sseq.now c.more_sent.result c.sequence_sent-sequence.result c.from-s.result c.header-head.result
    c.more_sent.ensures c.sequence_sent-sequence.ensures c.header-head.ensures (c.from-s.ensures ∙ c.sample_bits.ensures) in (
      omega (arith, c.from-s.ensures, c.sample_bits.ensures, s_le_8 p.coding.0),
      t.inside,
      rw (made, made_dropped p.coding.0 (more_sent p.step) (sequence_sent p.step a.sseq.now) p.noise a.samples.now a.hop.level t.known) t.enough,
    )
