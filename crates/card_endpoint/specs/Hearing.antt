-- Document 01's calls of an endpoint without a record as a host makes them, on numbers and on slices that it lends.
use Rattle.std.specs.Prelude.{ℕ, List, [], ◌∷◌}
use Rattle.coding.specs.Noise.{Paper}
use Rattle.endpoint.specs.declared.Told.{Told}
use Rattle.endpoint.specs.Read.{Heard}
use Rattle.endpoint.specs.Signal.{SignalHeard}
use Rattle.card.specs.Card.{flag}

-- the answers as numbers, in their order
abbrev pub noise_numbers : Paper → List ℕ
noise_numbers a = flag a.idle ∷ []

abbrev pub told_numbers : Told → List ℕ
told_numbers t = t.s ∷ t.dropped ∷ t.width ∷ []

abbrev pub heard_numbers : Heard → List ℕ
heard_numbers a = a.s ∷ a.dropped ∷ a.width ∷ []

abbrev pub signal_numbers : SignalHeard → List ℕ
signal_numbers a = a.bits ∷ a.na ∷ a.hold ∷ []
