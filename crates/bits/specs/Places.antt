-- Request A4: patterns among bits, and where they first stand.
use Rattle.std.specs.Prelude.{ℕ, suc, Bool, true, false, ◌&&◌, cond, List, [], ◌∷◌}
use Rattle.std.specs.Bool.{beq}

-- the bits begin with p
unfoldable pub begins : List Bool → List Bool → Bool
begins [] bs = true
begins (a ∷ p) [] = false
begins (a ∷ p) (b ∷ bs) = beq a b && begins p bs

-- how many bits go by before the test holds of what is left: all of them, where it never does
unfoldable pub until : (List Bool → Bool) → List Bool → ℕ
until test [] = 0
until test (b ∷ bs) = cond (test (b ∷ bs)) 0 (suc (until test bs))
