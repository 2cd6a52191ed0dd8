-- Document 01, "Blocks", amended by request A9: what the voice reader answers. Reading starts from 128 samples of zero and adds the blocks present.
use Rattle.std.specs.Prelude.{ℕ, ◌-◌, List, drop, replicate, Result, Ok, Err}
use Rattle.refusals.specs.Refusals.{if_taken, number}
use Rattle.refusals.specs.declared.Refusal.{Refusal}
use Rattle.coding.specs.Coding.{sample_bits}
use Rattle.blocks.specs.Blocks.{samples}
use Rattle.frame.specs.Fields.{field_m, field_c, coding}
use Rattle.frame.specs.Orders.{voice_refusal}
use Rattle.endpoint.specs.declared.Words.{Words}

-- the number, or 0 and what is heard
pub record Heard : Type 0 where
  pub refusal : ℕ
  pub s : ℕ
  pub dropped : ℕ
  pub width : ℕ
  pub samples : List ℕ

-- the paper's number and values for each case
unfoldable pub heard_paper : Result Words Refusal → Heard
heard_paper (Ok a) = record { refusal = 0; s = a.s; dropped = a.dropped; width = a.width; samples = a.samples }
heard_paper (Err r) = record { refusal = number r; s = 0; dropped = 0; width = 0; samples = replicate 128 0 }

-- S
abbrev pub bits_of : List ℕ → ℕ
bits_of f = sample_bits (coding f)

-- the number dropped, M-C
abbrev pub dropped_of : List ℕ → ℕ
dropped_of f = field_m f - field_c f

-- the width that is left, S-(M-C): a bit for each block present
abbrev pub width_of : List ℕ → ℕ
width_of f = bits_of f - dropped_of f

-- the blocks present, read at the width that is left: each sample divided by 2 ^ (M-C), as `at_width` of `blocks` says
unfoldable pub samples_of : List ℕ → List ℕ
samples_of f = samples (drop 8 f) (width_of f) (width_of f)

-- S, the number dropped, the width and the samples where nothing is refused; else the number, and zeros elsewhere
unfoldable pub heard_of : ℕ → List ℕ → Heard
heard_of n f =
    if_taken n
    (record { refusal = 0; s = bits_of f; dropped = dropped_of f; width = width_of f; samples = samples_of f })
    (record { refusal = n; s = 0; dropped = 0; width = 0; samples = replicate 128 0 })

-- the reader alone, without a record or clock
unfoldable pub read_answer : List ℕ → Heard
read_answer f = heard_of (voice_refusal f) f
