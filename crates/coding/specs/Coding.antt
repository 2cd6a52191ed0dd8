-- Document 01, "Coding types": the facts that every coding type carries, and the frame length.
use Rattle.std.specs.Prelude.{ℕ, ◌+◌, ◌*◌, ◌-◌, Bool, cond, leb, eqb}
use Rattle.refusals.specs.Refusals.{refuse}

-- the rows of the table: S, D, and 1 where a new burst resets the coder. All other types are reserved
unfoldable pub row : ℕ → ℕ × ℕ × ℕ
row t =
    cond (eqb t 0) (8, 0, 0)
    (cond (leb t 7) (t, 0, 0)
    (cond (leb t 9) (8, 0, 0)
    (cond (leb t 13) (t - 8, 0, 1)
    (cond (eqb t 20) (4, 2, 1)
    (cond (eqb t 21) (5, 3, 1)
    (cond (eqb t 24) (8, 2, 1) (0, 0, 0)))))))

abbrev pub sample_bits : ℕ → ℕ
sample_bits t = (row t).0

abbrev pub droppable_bits : ℕ → ℕ
droppable_bits t = (row t).1

abbrev pub reset_bit : ℕ → ℕ
reset_bit t = (row t).2

-- reserved or above 31: no row, and so no sample bits
abbrev pub reserved : ℕ → Bool
reserved t = eqb (sample_bits t) 0

-- 16 octets for each block that is left, and the ten around them; 0 where the type is reserved
abbrev pub frame_length : ℕ → ℕ → ℕ
frame_length t dropped = cond (reserved t) 0 (16 * (sample_bits t - dropped) + 10)

-- coding type reserved or above 31
abbrev pub refusal6 : ℕ → ℕ
refusal6 t = refuse (reserved t) 6
