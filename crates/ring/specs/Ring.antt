-- Request A6: places in a ring, where the first comes again after the last.
use Rattle.std.specs.Prelude.{ℕ, ◌+◌, ◌-◌, cond, List, [], ◌∷◌, ◌++◌, ltb, length, take, drop}

-- the place `ahead` places after `at`, of n
abbrev pub place_after : ℕ → ℕ → ℕ → ℕ
place_after at ahead n = cond (ltb (at + ahead) n) (at + ahead) (at + ahead - n)

-- all that a ring holds, from a place on and round its end
unfoldable pub turned : ℕ → List ℕ → List ℕ
turned at s = drop at s ++ take at s

-- the ring with x from a place on: turned there, x put over what is at the front, and turned back
unfoldable pub laid : ℕ → List ℕ → List ℕ → List ℕ
laid at x s = turned (length s - at) (x ++ drop (length x) (turned at s))

-- what `count` places hold, from a place on
abbrev pub used : ℕ → ℕ → List ℕ → List ℕ
used first count xs = take count (turned first xs)

unfoldable pub sum : List ℕ → ℕ
sum [] = 0
sum (x ∷ xs) = x + sum xs
