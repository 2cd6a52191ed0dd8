-- Of each exported call that goes by a queue's numbers alone, two outcomes that the promise allows are equal: its number, and every slice that is lent.
use Prim.Native.Nat.{ℕ}
use mathlib.Core.List.{List, [], ◌∷◌}
use lib.ListN.{length}
use Rattle.queue.specs.Calls.{fresh_queue}
use Rattle.card.specs.Card.{short, written}
use Rattle.card.proofs.OneOutcome.{One, one, Answers, answers}
use Rattle.card_queue.specs.Queues.{queue_numbers, size_refusal, kept_freed}

module _ (kept : List ℕ) where
  pub queue_fresh_one : One (size_refusal (length kept)) × One (written (size_refusal (length kept)) (queue_numbers fresh_queue) kept)
  queue_fresh_one = (one _, one _)

  pub queue_freed_one : (level : ℕ) (answer : List ℕ) → let a = kept_freed kept level in Answers (short 1 answer) a.refusal (a.octets ∷ []) answer
  queue_freed_one level answer = answers _ _ _ answer
