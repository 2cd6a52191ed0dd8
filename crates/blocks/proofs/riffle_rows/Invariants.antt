use mathlib.Core.Path.{◌≡◌}
use mathlib.Core.List.{◌++◌}
use Prim.Native.Nat.{◌*◌}
use lib.ListN.{length, drop}
use Rattle.octets.specs.Octets.{tab}
use Rattle.blocks.proofs.RiffleLaws.{taken, rows_riffled}
use Rattle.blocks.proofs.riffle_rows.Given as goal

abbrev pub invariant-loop-row : goal.invariant-loop-row
invariant-loop-row l = record { len : length l.to ≡ 128; done : l.to ≡ tab (taken rows_riffled l.from) (16 * l.row) ++ drop (16 * l.row) l.initial.to }
