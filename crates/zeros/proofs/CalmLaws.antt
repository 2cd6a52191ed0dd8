-- Where six ones never stand in a row, what reading leaves out are the zeros behind five ones.
use Prim.Native.Nat.{ℕ, zero, suc, ◌+◌, ◌≤◌, ◌<◌}
use mathlib.Core.Path.{◌≡◌, refl, ap}
use mathlib.Core.Bool.{Bool, true, false}
use mathlib.Core.List.{List, [], ◌∷◌, ◌++◌}
use native.Mathlib.Omega.{arith}
use lib.ListN.{length, replicate, length-append, length-replicate}
use Rattle.bits.specs.Places.{begins}
use Rattle.zeros.specs.Zeros.{unstuff}
use Rattle.zeros.specs.Parts.{zero_behind, places, Calm}
use Rattle.zeros.proofs.CountLaws.{places_short}

-- fewer than five ones before a zero bring nothing
behind_few : (k : ℕ) (bs : List Bool) → k < 5 → places zero_behind (replicate k true ++ false ∷ bs) ≡ places zero_behind bs
unfolding places begins
behind_few zero bs h = omega arith
behind_few (suc zero) bs h = omega arith
behind_few (suc (suc zero)) bs h = omega arith
behind_few (suc (suc (suc zero))) bs h = omega arith
behind_few (suc (suc (suc (suc zero)))) bs h = omega arith
behind_few (suc (suc (suc (suc (suc k))))) bs h = absurd (omega arith)

behind_five : (k : ℕ) (bs : List Bool) → k ≡ 5 → places zero_behind (replicate k true ++ false ∷ bs) ≡ suc (places zero_behind bs)
unfolding places begins
behind_five k bs h = rw h (omega arith)

behind_ones : (k : ℕ) → k ≤ 5 → places zero_behind (replicate k true ++ []) ≡ 0
behind_ones k h =
    places_short (replicate 5 true ++ false ∷ []) 5 refl (replicate k true ++ []) (omega (arith, length-append (replicate k true) [], length-replicate k true))

one_more : (k : ℕ) (bs : List Bool) → replicate k true ++ true ∷ bs ≡ replicate (suc k) true ++ bs
one_more zero bs = refl
one_more (suc k) bs = ap (λ (l : List Bool). true ∷ l) (one_more k bs)

-- behind k ones, where n more go by before a bit is left out
left_out : (k n : ℕ) (bs : List Bool) → k + n ≡ 5 → Calm n bs → length bs ≡ length (unstuff n bs) + places zero_behind (replicate k true ++ bs)
unfolding unstuff
left_out k n [] e c = omega (arith, behind_ones k (omega arith))
left_out k zero (false ∷ bs) e c = omega (arith, left_out 0 5 bs refl c, behind_five k bs (omega arith))
left_out k (suc n) (false ∷ bs) e c = omega (arith, left_out 0 5 bs refl c, behind_few k bs (omega arith))
left_out k zero (true ∷ bs) e c = absurd c
left_out k (suc n) (true ∷ bs) e c = rw (one_more k bs) (omega (arith, left_out (suc k) n bs (omega arith) c))

pub calm_length : (bs : List Bool) → Calm 5 bs → length bs ≡ length (unstuff 5 bs) + places zero_behind bs
calm_length bs c = left_out 0 5 bs refl c
