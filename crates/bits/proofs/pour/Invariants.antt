-- `bits::pour` meets its contract: the octets so far are stored, and the others are left in the number.
use Prim.Native.Nat.{◌/◌, ◌^◌}
use mathlib.Core.Path.{◌≡◌}
use Rattle.bits.proofs.BitLaws.{stored}
use Rattle.bits.proofs.pour.Given as goal

abbrev pub invariant-loop-octet : goal.invariant-loop-octet
invariant-loop-octet l = (l.octet-items ≡ stored l.initial.octet-items l.word l.k l.octet-index) × (l.rest ≡ l.word / 256 ^ l.octet-index)
