-- `check` meets its contract: the array has room for 488 octets and sixteen bits.
use mathlib.Core.Path.{sym}
use native.Mathlib.Omega.{arith}
use lib.Seq.{length-take-le}
use Rattle.plain_check.proofs.check.Goals as goal

pub slice_bounds-worked-end : goal.slice_bounds-worked-end
slice_bounds-worked-end c = sym (length-take-le _ _ (omega arith))

pub worked-requires : goal.worked-requires
worked-requires c = length-take-le _ _ (omega arith)
