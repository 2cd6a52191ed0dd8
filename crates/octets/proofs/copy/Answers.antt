use Rattle.std.proofs.Common.{arith}
use Rattle.octets.proofs.PartLaws.{copied_next}
use Rattle.octets.proofs.copy.Goals as goal

pub loop-i-preserved : goal.loop-i-preserved
loop-i-preserved g c =
    let a = c.args in
    let l = c.loop-i in
    rw l.invariant (copied_next a.src.now a.out.now l.i c.index-src-i.result c.index-src-i.is (omega arith) (omega arith))
