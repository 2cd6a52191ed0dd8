use Rattle.std.proofs.Common.{rules, ◌≡◌, ◌-◌, arith, min, length, take, drop, ap, ◌∙◌}
use Rattle.octets.specs.Octets.{octet}
use Rattle.origin.specs.Burst.{step_numbered}
use Rattle.origin.specs.Send.{send_refusal, send_written, send_answer, send_buffer}
use Rattle.walking.specs.Walk.{made, sending, room, by_origin}
use Rattle.walking.specs.Held.{carried_of}
use Rattle.walking.proofs.OutcomeLaws.{tail_within, step_found}
use Rattle.walking.proofs.by_origin.Goals as goal

pub returns : goal.returns
unfolding by_origin send_answer send_buffer
returns c =
    let a = c.args in
    let q = c.send-sent.ensures in
    let size : length a.state.frame.buffer ≡ 138 = search rules in
    let step : c.unwrap_or.result ≡ step_numbered (octet 5 a.whole.now) = c.unwrap_or.ensures ∙ rw (c.try_from.ensures, c.octet.ensures) (step_found (octet 5 a.whole.now)) in
    let start : c.min-samples.result ≡ min 12 (length a.whole.now) = omega arith in
    let samples : take (length a.whole.now - c.min-samples.result) (drop c.min-samples.result a.whole.now) ≡ drop 12 a.whole.now = rw start (tail_within 12 a.whole.now) in
    c.made.ensures (sending send_refusal (carried_of a.state) a.whole.now room) (sending send_written (carried_of a.state) a.whole.now)
    (q.answer ∙ rw (samples, step, c.octet-2.ensures, c.octet-3.ensures, c.octet-4.ensures, c.four_octets.ensures, size))
    (q.buffer ∙ rw (samples, step, c.octet-2.ensures, c.octet-3.ensures, c.octet-4.ensures, c.four_octets.ensures, size))
    ∙ ap (λ i. made (carried_of a.state) 1 i (sending send_refusal (carried_of a.state) a.whole.now room) (sending send_written (carried_of a.state) a.whole.now))
    (q.sseq ∙ rw (samples, step, c.octet-2.ensures, c.octet-3.ensures, c.octet-4.ensures, c.four_octets.ensures, size))
