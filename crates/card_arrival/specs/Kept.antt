-- Document 01's arrival as a host makes it, on a slice of numbers that it lends.
use Rattle.std.specs.Prelude.{ℕ, List, length}
use Rattle.refusals.specs.Refusals.{if_taken}
use Rattle.endpoint.specs.Arrival.{ArrivalHeard}
use Rattle.card_record.specs.Record.{record_numbers, record_of, record_refusal, refused_arrival, numbers_arrival}

-- a slice that is no record is answered by 14
unfoldable pub kept_arrival : List ℕ → List ℕ → ℕ → ArrivalHeard
kept_arrival kept f clock =
    if_taken (record_refusal (length kept))
    (numbers_arrival (record_of kept) f clock).answer
    (refused_arrival (record_refusal (length kept)))

-- the record after it
unfoldable pub kept_after : List ℕ → List ℕ → ℕ → List ℕ
kept_after kept f clock = record_numbers (numbers_arrival (record_of kept) f clock).after
