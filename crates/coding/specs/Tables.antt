-- How the code looks a constant table up. No promise of a call cites it.
use Rattle.std.specs.Prelude.{ℕ, List, get_or}

-- the entry for type t; 0 past the end
unfoldable pub entry : List ℕ → ℕ → ℕ
entry table t = get_or table t 0
