-- Before each turn the octets from k on are in the number.
use Rattle.std.proofs.Common.{◌≡◌, ◌≤◌, length, drop}
use Rattle.bits.specs.Bits.{bits, value}
use Rattle.bits.proofs.few.Given as goal

abbrev pub invariant-loop-k : goal.invariant-loop-k
invariant-loop-k l = (l.k ≤ length l.octets) × (l.w ≡ value (bits (drop l.k l.octets)))
