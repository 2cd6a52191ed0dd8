-- Of each exported call by which frames enter and leave, two outcomes that the promise allows are equal: its number, and every slice that is lent.
use Prim.Native.Nat.{ℕ}
use mathlib.Core.List.{List, [], ◌∷◌}
use Rattle.refusals.specs.Refusals.{◌or_else◌, if_taken}
use Rattle.card.specs.Card.{short, written}
use Rattle.card.proofs.OneOutcome.{One, one, Answers, answers}
use Rattle.card_queue.specs.Queues.{queue_numbers}
use Rattle.card_room.specs.Rooms.{kept_enter, kept_store, kept_take, kept_buffer}

module _ (kept : List ℕ) where
  pub queue_enter_one : (store frame : List ℕ) (clock : ℕ) → let a = kept_enter store kept frame clock in
      One a.refusal × One (kept_store store kept frame) × One (written a.refusal (queue_numbers a.after) kept)
  queue_enter_one store frame clock = (one _, one _, one _)

  pub queue_take_one : (store : List ℕ) (to level addr : ℕ) (out answer : List ℕ) → let a = kept_take store kept to level addr out in
      Answers (short 1 answer) a.refusal (a.length ∷ []) answer
      × One (if_taken (short 1 answer) (kept_buffer store kept to level addr out) out)
      × One (written (short 1 answer or_else a.refusal) (queue_numbers a.after) kept)
  queue_take_one store to level addr out answer = (answers _ _ _ answer, one _, one _)
