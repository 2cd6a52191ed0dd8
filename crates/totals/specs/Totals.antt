-- Request A7: the octets that a level gives back of a frame, and the totals that are kept of levels 1, 2 and 3.
use Rattle.std.specs.Prelude.{ℕ, ◌+◌, ◌-◌, ◌*◌, Bool, false, cond, ◌||◌, List, [], ◌∷◌, nat_lt, slice_index}
use Rattle.frame.specs.Fields.{is_voice}
use Rattle.onward.specs.Onward.{dropped}

-- 16 times the lesser of C and the level; signalling counts nothing
unfoldable pub gives : ℕ → List ℕ → ℕ
gives level f = cond (is_voice f) (16 * dropped level f) 0

-- a number for each of levels 1, 2 and 3
abbrev pub levels : (ℕ → ℕ) → List ℕ
levels number = number 1 ∷ number 2 ∷ number 3 ∷ []

-- the total that is kept of a level; of level 0 it is 0
abbrev pub total : List ℕ → ℕ → ℕ
total totals level = slice_index (0 ∷ totals) level

-- the totals with a frame more, and with one less, where a total stops at 0
unfoldable pub raised : List ℕ → List ℕ → List ℕ
raised f totals = levels (λ level. total totals level + gives level f)

unfoldable pub lowered : List ℕ → List ℕ → List ℕ
lowered f totals = levels (λ level. total totals level - gives level f)

-- one of the numbers is above n
unfoldable pub any_above : ℕ → List ℕ → Bool
any_above n [] = false
any_above n (x ∷ xs) = nat_lt n x || any_above n xs
