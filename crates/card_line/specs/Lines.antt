-- Request A4's calls as a host makes them, on numbers and on slices that it lends.
use Rattle.std.specs.Prelude.{ℕ, List, [], ◌∷◌}
use Rattle.line.specs.Calls.{Added, TakenOff}
use Rattle.card.specs.Card.{flag}

-- the answers as numbers, in their order
abbrev pub added_numbers : Added → List ℕ
added_numbers a = a.count ∷ []

abbrev pub taken_off_numbers : TakenOff → List ℕ
taken_off_numbers a = flag a.found ∷ a.length ∷ a.place ∷ []
