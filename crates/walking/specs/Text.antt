-- Document 01, "Examples", the program `walk`: a line is numbers in decimal with a space between two, or a number and `stop`.
use Rattle.std.specs.Prelude.{ℕ, zero, suc, ◌+◌, ◌/◌, ◌%◌, ◌≤◌, ◌≡◌, cond, List, [], ◌∷◌, ◌++◌, ltb, eqb, length}
use Rattle.std.proofs.lemmas.List.Edits.{sets}

-- the decimal digits of n, where that many places hold them
unfoldable pub digits : ℕ → ℕ → List ℕ
digits zero n = []
digits (suc places) n = cond (ltb n 10) ((48 + n) ∷ []) (digits places (n / 10) ++ ((48 + n % 10) ∷ []))

-- a number of 64 bits, which 20 places hold, and the octet after it
unfoldable pub number : ℕ → ℕ → List ℕ
number n after = digits 20 n ++ (after ∷ [])

-- a line end (10) comes after the last number, with none left, and a space (32) after any other
abbrev pub after_number : ℕ → ℕ
after_number left = cond (eqb left 0) 10 32

unfoldable pub line : List ℕ → List ℕ
line [] = []
line (n ∷ ns) = number n (after_number (length ns)) ++ line ns

-- the number, a space, `stop` and a line end
unfoldable pub stop_line : ℕ → List ℕ
stop_line n = number n 32 ++ (115 ∷ 116 ∷ 111 ∷ 112 ∷ 10 ∷ [])

-- a text put at a place of a buffer: where it ends, within the room that was asked for, and what the buffer holds after
pub record Put (text : List ℕ) (room at end : ℕ) (before after : List ℕ) : Type 0 where
  pub ends : end ≡ at + length text
  pub within : end ≤ at + room
  pub holds : after ≡ sets before at text
