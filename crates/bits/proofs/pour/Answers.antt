-- `bits::pour` meets its contract: the octets so far are stored, and the others are left in the number.
use Prim.Native.Nat.{ℕ, ◌+◌, ◌-◌, ◌≤◌}
use mathlib.Core.Path.{◌≡◌, ◌∙◌}
use mathlib.Core.List.{List}
use native.Mathlib.Omega.{arith}
use lib.ListN.{length, take, drop, length-drop}
use lib.Seq.{length-take-le}
use Rattle.bits.proofs.BitLaws.{stored_more, stored_all, rest_more}
use Rattle.bits.proofs.pour.Goals as goal

part_length : (out : List ℕ) (at k : ℕ) → at + k ≤ length out → length (take (at + k - at) (drop at out)) ≡ k
part_length out at k h = length-take-le (at + k - at) (drop at out) (omega (arith, length-drop at out)) ∙ omega arith

pub loop-octet-preserved : goal.loop-octet-preserved
loop-octet-preserved c =
    let a = c.args in
    let l = c.loop-octet in
    let n = part_length a.out.now a.at a.k c.requires in
    (rw (l.invariant.0, l.invariant.1) (stored_more _ a.word a.k l.octet-index n (omega arith) (omega arith)), rw l.invariant.1 (rest_more a.word l.octet-index))

pub returns-clause-stored : goal.returns-clause-stored
returns-clause-stored c =
    let a = c.args in
    let l = c.loop-octet in
    let n = part_length a.out.now a.at a.k c.requires in
    stored_all a.out.now _ l.octet-items a.at a.word a.k l.octet-index c.requires n (omega arith) l.invariant.0
