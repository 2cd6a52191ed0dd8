-- The calls of request A6 by which frames enter and leave, as a host makes them, on numbers and on slices that it lends.
use Rattle.std.specs.Prelude.{ℕ, List}
use Rattle.refusals.specs.Refusals.{if_taken}
use Rattle.room.specs.Rules.{enter_store, take_buffer}
use Rattle.queue.specs.Calls.{Entered, enter_answer, Taken, take_answer}
use Rattle.card_queue.specs.Queues.{queue_of, kept_refusal}

-- the calls on a queue of numbers; one that is none gets 14, and zeros elsewhere
unfoldable pub kept_enter : List ℕ → List ℕ → List ℕ → ℕ → Entered
kept_enter s kept f clock = if_taken (kept_refusal kept) (enter_answer s (queue_of kept) f clock) (record { refusal = kept_refusal kept; after = queue_of kept })

unfoldable pub kept_store : List ℕ → List ℕ → List ℕ → List ℕ
kept_store s kept f = if_taken (kept_refusal kept) (enter_store s (queue_of kept) f) s

unfoldable pub kept_take : List ℕ → List ℕ → ℕ → ℕ → ℕ → List ℕ → Taken
kept_take s kept to level addr out =
    if_taken (kept_refusal kept) (take_answer s (queue_of kept) to level addr out) (record { refusal = kept_refusal kept; length = 0; after = queue_of kept })

unfoldable pub kept_buffer : List ℕ → List ℕ → ℕ → ℕ → ℕ → List ℕ → List ℕ
kept_buffer s kept to level addr out = if_taken (kept_refusal kept) (take_buffer s (queue_of kept) to level addr out) out
