-- Of a promise that says what is right, two outcomes that it allows are equal. The exported calls cite these forms.
use Prim.Native.Nat.{ℕ}
use mathlib.Core.Path.{◌≡◌}
use mathlib.Core.List.{List}
use Rattle.octets.proofs.BoolLaws.{one_outcome}
use Rattle.refusals.specs.Refusals.{◌or_else◌}
use Rattle.card.specs.Card.{written}

abbrev pub One : {A : Type 0} → A → Type 0
One {A} right = (a b : A) → a ≡ right → b ≡ right → a ≡ b

pub one : {A : Type 0} (right : A) → One right
one right a b = one_outcome

-- a call that answers numbers: its number, and the slice of its answer
abbrev pub Answers : ℕ → ℕ → List ℕ → List ℕ → Type 0
Answers flat refusal numbers answer = One (flat or_else refusal) × One (written flat numbers answer)

pub answers : (flat refusal : ℕ) (numbers answer : List ℕ) → Answers flat refusal numbers answer
answers flat refusal numbers answer = (one (flat or_else refusal), one (written flat numbers answer))
