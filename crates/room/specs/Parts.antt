-- How the code goes by a record's numbers. No promise of a host's call cites what stands here.
use Rattle.std.specs.Prelude.{ℕ, ◌+◌, ◌≡◌, ◌≤◌, ◌<◌, false, ◌||◌, List, [], ltb, leb, length, take, Result, Ok, Err}
use Rattle.refusals.specs.Refusals.{◌or_else◌, refuse, if_taken, number}
use Rattle.refusals.specs.declared.Refusal.{Refusal}
use Rattle.frame.specs.Orders.{taken_refusal}
use Rattle.onward.specs.Sent.{Sent}
use Rattle.ring.specs.Ring.{place_after, turned, laid, sum}
use Rattle.totals.specs.Totals.{any_above}
use Rattle.totals.specs.Parts.{droppable}
use Rattle.room.specs.Plain.{first_of}
use Rattle.room.specs.Waiting.{lengths_of, waiting, refusal14}
use Rattle.room.specs.Rules.{take_sent, take_queue}
use Rattle.room.specs.declared.Queue.{Queue}
use Rattle.room.specs.declared.Spot.{Spot as Given}
use Rattle.room.specs.declared.Step.{Step as Made}
use Rattle.room.specs.declared.Gone.{Gone}
use Rattle.room.specs.declared.numbers.Outline.{Outline}
use Rattle.room.specs.declared.numbers.Numbers.{Numbers}

-- a record of numbers that come by themselves
abbrev pub queue_with : ℕ → ℕ → ℕ → List ℕ → List ℕ → List ℕ → Queue
queue_with head first count lengths clocks totals =
    record { head = head; first = first; count = count; lengths = lengths; clocks = clocks; totals = totals }

-- one whose clock readings do not matter
abbrev pub bare : ℕ → ℕ → ℕ → List ℕ → List ℕ → Queue
bare head first count lengths totals = queue_with head first count lengths [] totals

-- a record but for its clock readings
abbrev pub unclocked : Queue → Queue
unclocked q = bare q.head q.first q.count q.lengths q.totals

-- the record that numbers are of: without slots, with the lengths, and with the clock readings beside them
abbrev pub outlined : Outline → Queue
outlined o = bare o.head o.first o.count [] o.totals.now

abbrev pub numbered : Numbers → Queue
numbered w = bare w.outline.head w.outline.first w.outline.count w.lengths.now w.outline.totals.now

abbrev pub clocked : Numbers → List ℕ → Queue
clocked w clocks = queue_with w.outline.head w.outline.first w.outline.count w.lengths.now clocks w.outline.totals.now

-- 14; or the octets in use where it does not apply, and what is known then
abbrev pub Judged : ℕ → Queue → Result ℕ Refusal → Type 0
Judged n q (Ok u) =
    (0 ≡ refusal14 n q) × (u ≡ sum (lengths_of q)) × (u ≤ n) × (n ≤ 16384) × (q.count ≤ 32) × (q.first < 32) × (q.head ≤ n)
Judged n q (Err r) = number r ≡ refusal14 n q

-- an entry's order by the record's numbers
unfoldable pub entry_by : ℕ → Queue → List ℕ → ℕ
entry_by n q f = refusal14 n q or_else taken_refusal f or_else refuse (leb 32 q.count || ltb n (sum (lengths_of q) + length f)) 25

-- what a frame that comes gets
pub record Spot : Type 0 where
  pub refusal : ℕ
  pub slot : ℕ
  pub blocks : ℕ

unfoldable pub spot_by : ℕ → Queue → List ℕ → Spot
spot_by n q f =
    record { refusal = entry_by n q f; slot = if_taken (entry_by n q f) (place_after q.first q.count 32) 0; blocks = if_taken (entry_by n q f) (droppable f) 0 }

-- its number and values for each case
unfoldable pub spot_paper : Result Given Refusal → Spot
spot_paper (Ok a) = record { refusal = 0; slot = a.slot; blocks = a.blocks }
spot_paper (Err r) = record { refusal = number r; slot = 0; blocks = 0 }

-- what is known of a frame that is let in
abbrev pub Fits : Queue → List ℕ → Result Given Refusal → Type 0
Fits q f (Ok a) = (a.slot < 32) × (a.blocks < 4) × (q.count < 32) × (length f ≤ 138) × (any_above 1536 q.totals ≡ false)
Fits q f (Err r) = Unit {0}

unfoldable pub store_by : List ℕ → Queue → List ℕ → List ℕ
store_by s q f = if_taken (entry_by (length s) q f) (laid (place_after q.head (sum (lengths_of q)) (length s)) f s) s

-- n octets from a place on
abbrev pub octets_from : ℕ → ℕ → List ℕ → List ℕ
octets_from at n s = take n (turned at s)

-- the node's own answer, and the blocks of a frame that it sent on
abbrev pub sent_of : Result Gone Refusal → Sent
sent_of (Ok gone) = record { refusal = 0; length = gone.length }
sent_of (Err r) = record { refusal = number r; length = 0 }

abbrev pub Counts : List ℕ → Result Gone Refusal → Type 0
Counts f (Ok gone) = gone.blocks ≡ droppable f
Counts f (Err r) = Unit {0}

-- what taking answers and changes
pub record Step : Type 0 where
  pub refusal : ℕ
  pub length : ℕ
  pub head : ℕ
  pub first : ℕ
  pub count : ℕ
  pub blocks : ℕ

-- nothing is taken
abbrev pub stayed : ℕ → ℕ → Queue → Step
stayed refusal length q = record { refusal = refusal; length = length; head = q.head; first = q.first; count = q.count; blocks = 0 }

unfoldable pub step_of : List ℕ → Queue → ℕ → ℕ → ℕ → List ℕ → Step
step_of s q to level addr out = record {
  refusal = (take_sent s q to level addr out).refusal;
  length = (take_sent s q to level addr out).length;
  head = (take_queue s q to level addr out).head;
  first = (take_queue s q to level addr out).first;
  count = (take_queue s q to level addr out).count;
  blocks = if_taken (take_sent s q to level addr out).refusal (droppable (first_of (waiting s q)).octets) 0;
}

-- its number and values for each case: refused, the record's numbers are as they came
unfoldable pub step_paper : Queue → Result Made Refusal → Step
step_paper q (Ok a) = record { refusal = 0; length = a.length; head = a.head; first = a.first; count = a.count; blocks = a.blocks }
step_paper q (Err r) = stayed (number r) 0 q
