use Rattle.std.proofs.Common.{◌≡◌, [], ◌∷◌, ◌∙◌}
use Rattle.endpoint.specs.Arrival.{arrived_paper, arrival_paper}
use Rattle.walking.specs.Walk.{told, arriving, by_endpoint}
use Rattle.walking.specs.Held.{frame_of, carried_of}
use Rattle.walking.proofs.by_endpoint.Goals as goal
use Rattle.walking.proofs.by_endpoint.Goals.{in-Ok, in-Err}

pub returns : goal.returns
unfolding by_endpoint told arrived_paper arrival_paper
returns c =
    let a = c.args in
    let q : arrived_paper c.arrive_value-arrived.result ≡ arriving (carried_of a.state) a.whole.now = c.arrive_value-arrived.ensures ∙ rw (c.octets-frame.ensures, c.from-clock.ensures, c.four_octets.ensures) in
    elim c.match-arrived.branch [
      | in-Ok w ↦ rw (w.told-is, ← q, w.in-Ok.is, w.number.ensures, w.from.ensures, w.stamp_of.ensures, w.from-in-Ok.ensures, c.octets-frame.ensures)
      | in-Err w ↦ rw (w.told-is, ← q, w.in-Err.is, w.refused-told.ensures (frame_of a.state.frame) (0 ∷ 0 ∷ []))
    ]
