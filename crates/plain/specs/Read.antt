-- G.764, section 5.3, and document 01, "Blocks" and "Order", amended by request A9: what the voice reader answers, its words read one bit at a time.
use Rattle.std.specs.Prelude.{ℕ, ◌-◌, List, drop, replicate}
use Rattle.refusals.specs.Refusals.{if_taken}
use Rattle.coding.specs.Coding.{sample_bits}
use Rattle.frame.specs.Fields.{field_m, field_c, coding}
use Rattle.endpoint.specs.Read.{Heard}
use Rattle.plain_blocks.specs.Figure7.{read_words}
use Rattle.plain_order.specs.Order.{read_order}

-- the blocks dropped, M-C
abbrev pub blocks_missing : List ℕ → ℕ
blocks_missing f = field_m f - field_c f

-- the blocks present, S-(M-C): the width that is left
abbrev pub blocks_present : List ℕ → ℕ
blocks_present f = sample_bits (coding f) - blocks_missing f

-- the words of the blocks present; or the number, and zeros elsewhere
unfoldable pub plain_read : List ℕ → Heard
plain_read f =
    if_taken (read_order f)
    (record { refusal = 0; s = sample_bits (coding f); dropped = blocks_missing f; width = blocks_present f; samples = read_words (drop 8 f) (blocks_present f) })
    (record { refusal = read_order f; s = 0; dropped = 0; width = 0; samples = replicate 128 0 })
