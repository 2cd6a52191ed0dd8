use Rattle.walking.specs.Held.{kind_number}
use Rattle.walking.proofs.OutcomeLaws.{made_done, made_refused}
use Rattle.walking.proofs.made.Goals as goal
use Rattle.walking.proofs.made.Goals.{in-Ok, in-Err}

pub returns : goal.returns
returns c = λ refusal written e b.
    let a = c.args in
    elim c.match-sent.branch [
      | in-Ok w ↦ made_done a.state (kind_number a.kind) a.sseq refusal written w.in-Ok.length a.buffer _ _ (rw w.in-Ok.is at e) b
          (rw w.told-is) (rw (w.told-is, w.number.ensures, w.from.ensures, w.stamp_of.ensures, w.field_c.ensures.0, w.octets-written.ensures))
      | in-Err w ↦ made_refused a.state (kind_number a.kind) a.sseq refusal written w.in-Err.refusal _ _ (rw w.in-Err.is at e)
          (rw w.told-is) (rw w.told-is w.refused.ensures)
    ]
