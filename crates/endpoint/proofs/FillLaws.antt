-- Fill answers an empty part where either slice is shorter than 128, and only then; otherwise the first 128 of the one that M_LAST chooses.
use Prim.Native.Nat.{ℕ, ◌≤◌, ◌<◌}
use mathlib.Core.Path.{◌≡◌}
use mathlib.Core.Bool.{Bool, true, false, cond, ◌||◌}
use mathlib.Core.List.{List, []}
use lib.Dec.{ltb, eqb}
use lib.ListN.{length, take}
use lib.Seq.{length-take-le}
use borrow.Author.Tests.{lt-ltb, le-ltb, eq-eqb, ne_eqb}
use Rattle.endpoint.specs.Fill.{fill_of}

either : (a b : Bool) → b ≡ true → (a || b) ≡ true
either true b h = cc
either false b h = h

module _ (last noise : List ℕ) (mlast : ℕ) where
  pub fill_no_last : length last < 128 → fill_of last noise mlast ≡ []
  fill_no_last h = rw (lt-ltb (length last) 128 h)

  pub fill_no_noise : length noise < 128 → fill_of last noise mlast ≡ []
  fill_no_noise h = rw (either (ltb (length last) 128) (ltb (length noise) 128) (lt-ltb (length noise) 128 h))

  module _ (p : 128 ≤ length last) (q : 128 ≤ length noise) where
    pub fill_last : mlast ≡ 1 → fill_of last noise mlast ≡ take 128 last
    fill_last h = simp (le-ltb (length last) 128 p, le-ltb (length noise) 128 q, eq-eqb mlast 1 h)

    pub fill_noise : (mlast ≡ 1 → ⊥) → fill_of last noise mlast ≡ take 128 noise
    fill_noise h = simp (le-ltb (length last) 128 p, le-ltb (length noise) 128 q, ne_eqb mlast 1 h)

  pub fill_whole : 128 ≤ length last → 128 ≤ length noise → length (fill_of last noise mlast) ≡ 128
  fill_whole p q = rw (le-ltb (length last) 128 p, le-ltb (length noise) 128 q) (chosen (eqb mlast 1)) where
    chosen : (t : Bool) → length (take 128 (cond t last noise)) ≡ 128
    chosen true = length-take-le 128 last p
    chosen false = length-take-le 128 noise q
