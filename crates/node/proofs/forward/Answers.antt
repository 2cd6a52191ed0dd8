use mathlib.Core.Path.{sym}
use Rattle.node.proofs.ForwardLaws.{sendable}
use Rattle.node.proofs.forward.Goals as goal

pub send_on-requires : goal.send_on-requires
send_on-requires c =
    let level = c.from-level.result in
    let address = c.from-address.result in
    let w = c.wait in
    let n = c.onward_length-length in
    sendable n.result level w.result address c.args.frame.now c.args.out.now (sym (c.in_ok-forward_refusal.ensures w.result)) (n.ensures w.result address) w.ensures.1
