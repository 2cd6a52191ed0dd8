-- `Stretch::piece` meets its contract.
use native.Mathlib.Omega.{arith}
use lib.Seq.{slice, length-slice}
use Rattle.bits.specs.Bits.{bits}
use Rattle.bits.proofs.BitLaws.{length_bits}
use Rattle.zeros.proofs.PourLaws.{look_is, look_fits}
use Rattle.zeros.proofs.Stretch.piece.Goals as goal

pub carry_word-requires : goal.carry_word-requires
carry_word-requires c =
    let a = c.args in
    let left = c.min-left in
    (omega arith, omega arith, look_fits a.self.octets.now a.i a.self.end left.result c.window-w.result left.ensures c.window-w.ensures)

pub returns : goal.returns
returns c =
    let a = c.args in
    let left = c.min-left in
    let w = c.window-w in
    let all = bits a.self.octets.now in
    c.carry_word.ensures (slice a.i a.self.end all) (look_is a.self.octets.now a.i a.self.end left.result w.result left.ensures w.ensures)
    (omega (arith, length-slice a.i a.self.end all (omega (arith, length_bits a.self.octets.now))))
