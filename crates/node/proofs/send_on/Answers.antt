-- `node::send_on` meets its contract.
use native.Mathlib.Omega.{arith}
use Rattle.node.proofs.ForwardLaws.{assembled}
use Rattle.node.proofs.send_on.Goals as goal

pub returns : goal.returns
returns c =
    let q = c.put in
    let k = c.copy-2 in
    let j = c.copy in
    let check = c.head-check in
    let h = c.head-made in
    let start = c.before in
    let a = start.args in
    assembled a.n a.level a.wait a.address a.frame.now a.out.now h.result j.new.out k.new.out q.new.out check.result
    start.requires h.ensures (omega arith) check.ensures j.ensures k.ensures q.ensures
