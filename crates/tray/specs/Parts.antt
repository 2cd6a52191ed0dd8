-- How the code goes through a tray. No promise of a host's call cites what stands here.
use Rattle.std.specs.Prelude.{ℕ, ◌≤◌, ◌≡◌, List, length, drop}
use Rattle.tray.specs.Tray.{read}

-- so many records, and what is left begins at `end`
pub record Counts (tray : List ℕ) (count end : ℕ) : Type 0 where
  pub many : count ≡ length (read tray).frames
  pub behind : (read tray).left ≡ drop end tray
  pub within : end ≤ length tray
