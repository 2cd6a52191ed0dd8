-- What the code goes by. No promise of a host's call cites what stands here.
use Rattle.std.specs.Prelude.{◌≡◌, ℕ, false, cond, List, length}
use Rattle.frame.specs.Fields.{is_voice, field_c}
use Rattle.totals.specs.Totals.{any_above}

-- C of a voice frame, 0 of signalling
abbrev pub droppable : List ℕ → ℕ
droppable f = cond (is_voice f) (field_c f) 0

-- totals of a record that 14 lets by
pub record Totalled (totals : List ℕ) : Type 0 where
  pub three : length totals ≡ 3
  pub within : any_above 1536 totals ≡ false
