-- `line::close_line` meets its contract: the flag and the bits that are left of its last octet are one piece, put behind what is held.
use native.Mathlib.Omega.{arith}
use Rattle.line.proofs.MoreLaws.{up, flag_fits, flag_word, closed_by}
use Rattle.line.proofs.close_line.Goals as goal

pub overflow_add-higher : goal.overflow_add-higher
overflow_add-higher c =
    let a = c.args in
    let h = a.held in
    let w = c.window-higher in
    rw (up a.line.now h.at h.bits h.n w.result h.few c.requires.0 w.ensures)
    (record { fits = flag_word a.line.now h.at h.bits h.n w.result h.few c.requires.0 w.ensures })

pub put-requires : goal.put-requires
put-requires c =
    let a = c.args in
    let h = a.held in
    let w = c.window-higher in (
      rw (up a.line.now h.at h.bits h.n w.result h.few c.requires.0 w.ensures) (flag_fits a.line.now h.at h.bits h.n w.result h.few c.requires.0 w.ensures),
      omega arith,
      omega (arith, c.requires.0, h.few),
    )

pub returns-clause-buffer : goal.returns-clause-buffer
returns-clause-buffer c =
    let a = c.args in
    let h = a.held in
    let w = c.window-higher in
    let p = c.put in
    closed_by a.line.now h.at h.bits h.n w.result h.few c.requires.0 w.ensures p.new.out p.result.at p.result.bits p.result.n
    (rw (up a.line.now h.at h.bits h.n w.result h.few c.requires.0 w.ensures) at p.ensures)
