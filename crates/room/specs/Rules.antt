-- Requests A6 and A7: what is refused on entry, on taking and to a question, and what each leaves in store, record and buffer.
use Rattle.std.specs.Prelude.{ℕ, ◌+◌, ◌-◌, List, length, get_or, set, Result, Ok, Err}
use Rattle.refusals.specs.Refusals.{◌or_else◌, if_taken, refusal10, number}
use Rattle.refusals.specs.declared.Refusal.{Refusal}
use Rattle.onward.specs.Sent.{Sent}
use Rattle.ring.specs.Ring.{place_after, laid}
use Rattle.totals.specs.Totals.{total, raised, lowered}
use Rattle.room.specs.Plain.{together, enter_order, refusal26, first_of, sent_past, buffer_past}
use Rattle.room.specs.Waiting.{waiting, refusal14}
use Rattle.room.specs.declared.Queue.{Queue}

-- on entry: 14, then the plain list's order
unfoldable pub enter_refusal : List ℕ → Queue → List ℕ → ℕ
enter_refusal s q f = refusal14 (length s) q or_else enter_order (length s) (waiting s q) f

-- the record with a frame more, in the slot after the last and in the totals
unfoldable pub with_frame : Queue → List ℕ → ℕ → Queue
with_frame q f clock = record {
  head = q.head;
  first = q.first;
  count = q.count + 1;
  lengths = set q.lengths (place_after q.first q.count 32) (length f);
  clocks = set q.clocks (place_after q.first q.count 32) clock;
  totals = raised f q.totals;
}

unfoldable pub enter_queue : List ℕ → Queue → List ℕ → ℕ → Queue
enter_queue s q f clock = if_taken (enter_refusal s q f) (with_frame q f clock) q

-- the frame is laid behind the last, and every other octet is as it was
unfoldable pub enter_store : List ℕ → Queue → List ℕ → List ℕ
enter_store s q f = if_taken (enter_refusal s q f) (laid (place_after q.head (together (waiting s q)) (length s)) f s) s

-- on taking: 14, 26, then the node's
abbrev pub none_to_take : List ℕ → Queue → ℕ
none_to_take s q = refusal14 (length s) q or_else refusal26 (waiting s q)

unfoldable pub take_sent : List ℕ → Queue → ℕ → ℕ → ℕ → List ℕ → Sent
take_sent s q to level addr out = sent_past (none_to_take s q) (waiting s q) to level addr out

unfoldable pub take_buffer : List ℕ → Queue → ℕ → ℕ → ℕ → List ℕ → List ℕ
take_buffer s q to level addr out = buffer_past (none_to_take s q) (waiting s q) to level addr out

-- the record without its first
unfoldable pub without_first : List ℕ → Queue → Queue
without_first s q = record {
  head = place_after q.head (get_or q.lengths q.first 0) (length s);
  first = place_after q.first 1 32;
  count = q.count - 1;
  lengths = q.lengths;
  clocks = q.clocks;
  totals = lowered (first_of (waiting s q)).octets q.totals;
}

unfoldable pub take_queue : List ℕ → Queue → ℕ → ℕ → ℕ → List ℕ → Queue
take_queue s q to level addr out = if_taken (take_sent s q to level addr out).refusal (without_first s q) q

-- to a question: 14, with the longest store there may be, since none is lent; then 10
abbrev pub freed_refusal : Queue → ℕ → ℕ
freed_refusal q level = refusal14 16384 q or_else refusal10 level

-- the number, and the total of the level
pub record GivenBack : Type 0 where
  pub refusal : ℕ
  pub octets : ℕ

unfoldable pub freed_answer : Queue → ℕ → GivenBack
freed_answer q level =
    if_taken (freed_refusal q level) (record { refusal = 0; octets = total q.totals level }) (record { refusal = freed_refusal q level; octets = 0 })

-- the paper's number and value for each case
unfoldable pub freed_paper : Result ℕ Refusal → GivenBack
freed_paper (Ok n) = record { refusal = 0; octets = n }
freed_paper (Err r) = record { refusal = number r; octets = 0 }
