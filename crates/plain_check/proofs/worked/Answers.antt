-- `worked` meets its contract: the steps one after another are the sum.
use Prim.Native.Nat.{◌-◌, ◌<◌, ℕ}
use mathlib.Core.Path.{◌≡◌, refl, sym, ap, subst, ◌∙◌}
use native.Mathlib.Omega.{arith}
use lib.ListN.{length, take, drop, replicate}
use Rattle.octets.proofs.PartLaws.{tail_length}
use Rattle.plain_check.specs.Bits.{number}
use Rattle.plain_check.specs.Check.{complemented}
use Rattle.plain_check.proofs.BitLaws.{two_below}
use Rattle.plain_check.proofs.WalkLaws.{last_put, worked_is, octets_are}
use Rattle.plain_check.proofs.worked.Goals as goal

pub sent-requires : goal.sent-requires
unfolding complemented
sent-requires c =
    let divided = c.divide.new.bits in
    let second = c.complement-2 in
    let n : ℕ = length c.args.bits.now - 16 in
    subst (λ s. (length s ≡ 16) × (number (take 8 s) < 256) × (number (drop 8 s) < 256)) (sym (last_put divided second.new.bits n (omega arith) ∙ second.ensures))
    (two_below (replicate 16 1) _ refl (tail_length n divided ∙ omega arith))

pub returns : goal.returns
returns c =
    let second = c.complement-2 in
    let divided = c.divide in
    let first = c.complement in
    let laid = c.lay_out in
    let n : ℕ = length c.args.bits.now - 16 in
    octets_are c.args.message.now _ _
    (last_put divided.new.bits second.new.bits n (omega arith)
    ∙ worked_is c.args.message.now first.new.bits divided.new.bits second.new.bits n (first.ensures ∙ ap complemented laid.ensures) divided.ensures (omega arith) second.ensures)
    c.sent.ensures
