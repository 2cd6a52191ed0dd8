use mathlib.Core.Path.{◌≡◌}
use mathlib.Core.List.{◌++◌}
use Prim.Native.Nat.{◌*◌}
use lib.ListN.{length, drop}
use Rattle.octets.specs.Octets.{tab}
use Rattle.blocks.proofs.RiffleLaws.{taken, riffled}
use Rattle.blocks.proofs.riffle.Given as goal

abbrev pub invariant-loop-i : goal.invariant-loop-i
invariant-loop-i l = record { len : length l.to ≡ 128; done : l.to ≡ tab (taken riffled l.from) (2 * l.i) ++ drop (2 * l.i) l.initial.to }
