-- Request A4: octets as bits, the lowest of each octet first. A one is true, a zero false.
use Rattle.std.specs.Prelude.{ℕ, zero, suc, ◌+◌, ◌*◌, ◌/◌, ◌%◌, Bool, cond, List, [], ◌∷◌, ◌++◌, eqb, take, drop}

-- the lowest n bits of x, the lowest first
unfoldable pub lowest : ℕ → ℕ → List Bool
lowest zero x = []
lowest (suc n) x = eqb (x % 2) 1 ∷ lowest n (x / 2)

-- the bits of octets
unfoldable pub bits : List ℕ → List Bool
bits [] = []
bits (x ∷ xs) = lowest 8 x ++ bits xs

-- the number whose bits these are
unfoldable pub value : List Bool → ℕ
value [] = 0
value (b ∷ bs) = cond b 1 0 + 2 * value bs

-- the first n octets of bits
unfoldable pub octets_of : ℕ → List Bool → List ℕ
octets_of zero bs = []
octets_of (suc n) bs = value (take 8 bs) ∷ octets_of n (drop 8 bs)
