-- Of the record made fresh, two outcomes that the promise allows are equal: its number, and every number of the slice.
use Prim.Native.Nat.{ℕ}
use mathlib.Core.List.{List}
use lib.ListN.{length}
use Rattle.playout.specs.Play.{fresh_record}
use Rattle.card.specs.Card.{written}
use Rattle.card.proofs.OneOutcome.{One, one}
use Rattle.card_record.specs.Record.{record_numbers, record_refusal}

pub fresh_one : (b : ℕ) (kept : List ℕ) → One (record_refusal (length kept)) × One (written (record_refusal (length kept)) (record_numbers (fresh_record b)) kept)
fresh_one b kept = (one _, one _)
