-- A queue as a host lends it, and the calls of requests A6 and A7 that go by its numbers alone.
use Rattle.std.specs.Prelude.{ℕ, not, List, ◌∷◌, ◌++◌, eqb, length, take, drop, get_or}
use Rattle.refusals.specs.Refusals.{◌or_else◌, refuse, if_taken}
use Rattle.totals.specs.Totals.{any_above}
use Rattle.room.specs.Rules.{GivenBack, freed_answer}
use Rattle.room.specs.declared.Queue.{Queue}

-- a queue is 70 numbers: the first frame's place and slot, how many wait, 32 lengths, 32 clock readings, and the totals of levels 1, 2 and 3
abbrev pub queue_numbers : Queue → List ℕ
queue_numbers q = q.head ∷ q.first ∷ q.count ∷ (q.lengths ++ q.clocks ++ q.totals)

abbrev pub queue_of : List ℕ → Queue
queue_of kept = record {
  head = get_or kept 0 0;
  first = get_or kept 1 0;
  count = get_or kept 2 0;
  lengths = take 32 (drop 3 kept);
  clocks = take 32 (drop 35 kept);
  totals = drop 67 kept;
}

-- a slice of another length
abbrev pub size_refusal : ℕ → ℕ
size_refusal n = refuse (not (eqb n 70)) 14

-- or one with a length that fits no octet
unfoldable pub kept_refusal : List ℕ → ℕ
kept_refusal kept = size_refusal (length kept) or_else refuse (any_above 255 (queue_of kept).lengths) 14

-- a question; of a queue that is none it gets 14, and zeros elsewhere
unfoldable pub kept_freed : List ℕ → ℕ → GivenBack
kept_freed kept level = if_taken (kept_refusal kept) (freed_answer (queue_of kept) level) (record { refusal = kept_refusal kept; octets = 0 })
