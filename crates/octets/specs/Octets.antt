-- Document 01, "Frame layout": octets are counted from 1, and what a frame does not have counts as 0.
use Rattle.std.specs.Prelude.{ℕ, zero, suc, ◌+◌, ◌-◌, ◌*◌, List, [], ◌∷◌, ◌++◌, get_or}

-- octet n, from 1
abbrev pub octet : ℕ → List ℕ → ℕ
octet n f = get_or f (n - 1) 0

-- two octets from octet n on, little-endian
abbrev pub two : ℕ → List ℕ → ℕ
two n f = octet n f + 256 * octet (n + 1) f

-- the list f 0, f 1, .., f (n - 1)
unfoldable pub tab : {A : Type 0} → (ℕ → A) → ℕ → List A
tab f zero = []
tab f (suc n) = tab f n ++ (f n ∷ [])
