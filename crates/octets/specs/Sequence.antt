-- Document 01, "Origin and node" and "Play-out": the numbers of a burst, 0 and then 1 to 15 over and over.
use Rattle.std.specs.Prelude.{ℕ, ◌+◌, cond, leb}

-- 0 is followed by 1, and so is 15
abbrev pub next_number : ℕ → ℕ
next_number n = cond (leb 15 n) 1 (n + 1)
