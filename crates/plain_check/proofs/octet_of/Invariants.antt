-- `octet_of` meets its contract: the number of the bits passed, from the highest.
use Rattle.std.proofs.Common.{◌≡◌, ℕ, ◌++◌, List}
use Rattle.std.specs.Slice.Iter.{iter_rest}
use Rattle.std.specs.Iterator.Adapters.{rev_source}
use Rattle.plain_check.specs.Bits.{number}
use Rattle.plain_check.proofs.octet_of.Given as goal

abbrev pub invariant-loop-bit : goal.invariant-loop-bit
invariant-loop-bit l =
    (goal.iterator-loop-bit).can_next l.bit-iterator
    × (goal.iterator-loop-bit).is_finite l.bit-iterator
    × (done : List ℕ)
    × (iter_rest (rev_source l.bit-iterator) ++ done ≡ l.bits)
    × (l.octet ≡ number done)
