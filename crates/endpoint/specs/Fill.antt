-- Document 01, "Play-out", Fill: the samples played in the absence of packets.
use Rattle.std.specs.Prelude.{ℕ, cond, ◌||◌, List, [], ltb, eqb, length, take}

-- the first 128 of the one that M_LAST chooses, 1 the last samples, any other number the noise; empty if either is shorter than 128
abbrev pub fill_of : List ℕ → List ℕ → ℕ → List ℕ
fill_of last noise mlast =
    cond (ltb (length last) 128 || ltb (length noise) 128) [] (take 128 (cond (eqb mlast 1) last noise))
