-- How the code works on many bits at once. No call's promise cites what stands here.
use Rattle.std.specs.Prelude.{Bool, List, [], ◌∷◌}

-- a one for each place where the test holds of what is left
unfoldable pub marks : (List Bool → Bool) → List Bool → List Bool
marks test [] = []
marks test (b ∷ bs) = test (b ∷ bs) ∷ marks test bs
