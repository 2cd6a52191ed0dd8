-- Laws of what holds of each of a list.
use Prim.Native.Nat.{ℕ, zero, suc}
use mathlib.Core.Path.{◌≡◌, refl, ap₂}
use mathlib.Core.List.{List, [], ◌∷◌, ◌++◌, map}
use lib.ListN.{get_or}
use Rattle.wire.specs.Wire.{Each}

module _ {A : Type 0} (P : A → Type 0) where
  pub each_append : (xs ys : List A) → Each P xs → Each P ys → Each P (xs ++ ys)
  each_append [] ys p q = q
  each_append (x ∷ xs) ys p q = (p.0, each_append xs ys p.1 q)

  pub each_at : (xs : List A) (d : A) → Each P xs → P d → (i : ℕ) → P (get_or xs i d)
  each_at [] d p h i = h
  each_at (x ∷ xs) d p h zero = p.0
  each_at (x ∷ xs) d p h (suc i) = each_at xs d p.1 h i

  module _ {B : Type 0} where
    pub each_map : (Q : B → Type 0) (f : A → B) → ((x : A) → P x → Q (f x)) → (xs : List A) → Each P xs → Each Q (map f xs)
    each_map Q f h [] p = tt
    each_map Q f h (x ∷ xs) p = (h x p.0, each_map Q f h xs p.1)

    -- two functions that agree on each
    pub map_each : (f g : A → B) → ((x : A) → P x → f x ≡ g x) → (xs : List A) → Each P xs → map f xs ≡ map g xs
    map_each f g h [] p = refl
    map_each f g h (x ∷ xs) p = ap₂ (λ (y : B) (ys : List B). y ∷ ys) (h x p.0) (map_each f g h xs p.1)
