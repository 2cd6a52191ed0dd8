-- Both and either, taken apart; and that one definition allows one outcome.
use mathlib.Core.Path.{◌≡◌, refl, sym, ◌∙◌}
use mathlib.Core.Bool.{Bool, true, false, ◌||◌, ◌&&◌}

pub or_false : (a b : Bool) → (a || b) ≡ false → (a ≡ false) × (b ≡ false)
or_false false b h = (refl, h)
or_false true b h = (h, cc)

pub and_true : (a b : Bool) → (a && b) ≡ true → (a ≡ true) × (b ≡ true)
and_true true b h = (refl, h)
and_true false b h = (h, cc)

-- what two outcomes that equal one definition are: the same
pub one_outcome : {A : Type 0} {right a b : A} → a ≡ right → b ≡ right → a ≡ b
one_outcome p q = p ∙ sym q
