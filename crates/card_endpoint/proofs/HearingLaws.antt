-- What is known of slices that the endpoint's calls take.
use Prim.Native.Nat.{ℕ, ◌≤◌}
use mathlib.Core.Bool.{Bool, true, false, cond, ◌||◌}
use mathlib.Core.List.{List, []}
use native.Mathlib.Omega.{arith}
use lib.Dec.{ltb, eqb}
use lib.ListN.{length, take, length-take}
use Rattle.endpoint.specs.Fill.{fill_of}

-- a fill fits where 128 do
pub fill_fits : (last noise : List ℕ) (mlast : ℕ) → length (fill_of last noise mlast) ≤ 128
fill_fits last noise mlast = go (ltb (length last) 128 || ltb (length noise) 128) where
  go : (b : Bool) → length (cond b [] (take 128 (cond (eqb mlast 1) last noise))) ≤ 128
  go true = omega arith
  go false = rw length-take (omega arith)
