use Rattle.std.proofs.Common.{rules, ◌≡◌, length, ◌∙◌}
use Rattle.onward.specs.Onward.{onward}
use Rattle.node.specs.Node.{forward_refusal, forward_answer, forward_buffer}
use Rattle.walking.specs.Walk.{forwarding, room, by_node}
use Rattle.walking.specs.Held.{carried_of}
use Rattle.walking.proofs.by_node.Goals as goal

pub returns : goal.returns
unfolding by_node forward_answer forward_buffer
returns c =
    let a = c.args in
    let q = c.forward-sent.ensures in
    let size : length a.state.frame.buffer ≡ 138 = search rules in
    c.made.ensures (forwarding forward_refusal (carried_of a.state) a.whole.now room) (forwarding onward (carried_of a.state) a.whole.now)
    (q.answer ∙ rw (c.octet.ensures, c.four_octets.ensures, c.octets.ensures, size))
    (q.buffer ∙ rw (c.octet.ensures, c.four_octets.ensures, c.octets.ensures, size))
