-- How the code goes by a queue of numbers. No promise of a host's call cites what stands here.
use Rattle.std.specs.Prelude.{ℕ, ◌≡◌, List, length, Result, Ok, Err}
use Rattle.refusals.specs.Refusals.{number}
use Rattle.refusals.specs.declared.Refusal.{Refusal}
use Rattle.room.specs.Parts.{unclocked, numbered}
use Rattle.room.specs.declared.numbers.Numbers.{Numbers}
use Rattle.card_queue.specs.Queues.{queue_of, kept_refusal}

-- a queue by its parts, where nothing is wrong with it
abbrev pub Lent : List ℕ → Result Numbers Refusal → Type 0
Lent kept (Ok w) = (0 ≡ kept_refusal kept) × (length kept ≡ 70) × (numbered w ≡ unclocked (queue_of kept))
Lent kept (Err r) = number r ≡ kept_refusal kept
