-- Of each exported arrival, two outcomes that the promise allows are equal: its number, and every slice that is lent.
use Prim.Native.Nat.{ℕ}
use mathlib.Core.List.{List}
use lib.ListN.{length}
use Rattle.refusals.specs.Refusals.{◌or_else◌}
use Rattle.card.specs.Card.{written}
use Rattle.card.proofs.OneOutcome.{One, one, Answers, answers}
use Rattle.card_record.specs.Record.{arrival_numbers, record_refusal}
use Rattle.card_arrival.specs.Kept.{kept_arrival, kept_after}

-- `flat` is what the slices of each of the two arrival calls give, and `slot` where it puts the record after
pub arrive_one : (flat clock : ℕ) (kept f slot answer samples : List ℕ)
    → Answers flat (kept_arrival kept f clock).refusal (arrival_numbers (kept_arrival kept f clock)) answer
    × One (written flat (kept_arrival kept f clock).samples samples)
    × One (written (flat or_else record_refusal (length kept)) (kept_after kept f clock) slot)
arrive_one flat clock kept f slot answer samples = (answers flat _ _ answer, one _, one _)
