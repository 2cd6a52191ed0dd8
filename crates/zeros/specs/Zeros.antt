-- Request A4: a zero after five ones, put in where bits are written and left out where they are read.
use Rattle.std.specs.Prelude.{ℕ, zero, suc, Bool, true, false, List, [], ◌∷◌}

-- the bits with a zero put in after each five ones; n more ones go by before the one that brings a zero
unfoldable pub stuff : ℕ → List Bool → List Bool
stuff n [] = []
stuff n (false ∷ bs) = false ∷ stuff 4 bs
stuff zero (true ∷ bs) = true ∷ false ∷ stuff 4 bs
stuff (suc n) (true ∷ bs) = true ∷ stuff n bs

-- the bits with what follows each five ones left out; n more ones go by before that
unfoldable pub unstuff : ℕ → List Bool → List Bool
unstuff n [] = []
unstuff zero (b ∷ bs) = unstuff 5 bs
unstuff (suc n) (true ∷ bs) = true ∷ unstuff n bs
unstuff (suc n) (false ∷ bs) = false ∷ unstuff 5 bs
