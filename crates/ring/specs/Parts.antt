-- What the code asks of the slots that it adds. No promise of a host's call cites what stands here.
use Rattle.std.specs.Prelude.{ℕ, ◌<◌, ◌≡◌, List, length, get_or}

-- 32 of them, each an octet
pub record Slots (xs : List ℕ) : Type 0 where
  pub all : length xs ≡ 32
  pub octets : (i : ℕ) → get_or xs i 0 < 256
