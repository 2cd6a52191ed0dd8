-- Document 01, "Play-out", amended by request A2, over any list of arrival calls on one record: the record that they leave, when their frames are due, and which were received.
use Rattle.std.specs.Prelude.{ℕ, ◌+◌, ◌≤◌, Bool, cond, ◌||◌, List, [], ◌∷◌, eqb}
use Rattle.refusals.specs.Refusals.{if_taken}
use Rattle.playout.specs.declared.Endpoint.{Endpoint}
use Rattle.playout.specs.Play.{still_stores}
use Rattle.endpoint.specs.Arrival.{Moved, arrival_of}

pub record Call : Type 0 where
  pub frame : List ℕ
  pub clock : ℕ

abbrev pub arrival_at : Endpoint → Call → Moved
arrival_at e c = arrival_of e c.frame c.clock

unfoldable pub record_after : Endpoint → List Call → Endpoint
record_after e [] = e
record_after e (c ∷ cs) = record_after (arrival_at e c).after cs

-- the due times of the frames that were scheduled, in the order of the calls
unfoldable pub due_times : Endpoint → List Call → List ℕ
due_times e [] = []
due_times e (c ∷ cs) =
    if_taken (arrival_at e c).answer.refusal
    ((arrival_at e c).answer.due ∷ due_times (arrival_at e c).after cs)
    (due_times (arrival_at e c).after cs)

-- packets of 16 ms that never overlap, none before `from`
unfoldable pub Apart : ℕ → List ℕ → Type 0
Apart from [] = Unit {0}
Apart from (due ∷ dues) = (from ≤ due) × Apart (due + 16) dues

-- a packet counts as received where it is scheduled, and by A2 where it is late or due too far ahead
abbrev pub is_received : ℕ → Bool
is_received n = eqb n 0 || still_stores n

-- the packets received, in the order of the calls
unfoldable pub received : Endpoint → List Call → List (List ℕ)
received e [] = []
received e (c ∷ cs) =
    cond (is_received (arrival_at e c).answer.refusal)
    (c.frame ∷ received (arrival_at e c).after cs)
    (received (arrival_at e c).after cs)

-- a field of the last of these frames; of none, what it was before
unfoldable pub last_of : (List ℕ → ℕ) → ℕ → List (List ℕ) → ℕ
last_of field before [] = before
last_of field before (f ∷ fs) = last_of field (field f) fs
