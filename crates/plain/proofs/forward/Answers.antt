-- `forward` meets its contract: what it refuses leaves the frame its ten octets and the buffer its room.
use Rattle.std.proofs.Common.{length, sym}
use Rattle.plain.proofs.PlainLaws.{forward_taken}
use Rattle.plain.proofs.forward.Goals as goal

pub send_on-requires : goal.send_on-requires
send_on-requires c =
    let a = c.args in
    let t = forward_taken a.hop.level a.hop.address a.frame.now (length a.out.now) (sym c.in_ok-forward_order.ensures) in
    (t.long, c.wait_between-wait.ensures.1, rw c.from.ensures t.inside, rw c.from-level.ensures t.enough)
