-- Requests A6 and A7: what each call answers. What is refused, what store, record and buffer hold after it, and what a question is answered with, are the rules of `room`.
use Rattle.std.specs.Prelude.{ℕ, List, replicate, Result, Ok, Err}
use Rattle.refusals.specs.Refusals.{number}
use Rattle.refusals.specs.declared.Refusal.{Refusal}
use Rattle.room.specs.Rules.{enter_refusal, enter_queue, take_sent, take_queue}
use Rattle.room.specs.declared.Queue.{Queue}
use Rattle.queue.specs.declared.Taken.{Taken as Sent}

-- nothing waits
abbrev pub fresh_queue : Queue
fresh_queue = record { head = 0; first = 0; count = 0; lengths = replicate 32 0; clocks = replicate 32 0; totals = replicate 3 0 }

-- the number, and the record after it
pub record Entered : Type 0 where
  pub refusal : ℕ
  pub after : Queue

unfoldable pub enter_answer : List ℕ → Queue → List ℕ → ℕ → Entered
enter_answer s q f clock = record { refusal = enter_refusal s q f; after = enter_queue s q f clock }

-- the paper's number and record for each case: refused, the record is as it came
unfoldable pub entered_paper : Queue → Result Queue Refusal → Entered
entered_paper q (Ok after) = record { refusal = 0; after = after }
entered_paper q (Err r) = record { refusal = number r; after = q }

-- the number, the length of the frame sent on, and the record after it
pub record Taken : Type 0 where
  pub refusal : ℕ
  pub length : ℕ
  pub after : Queue

unfoldable pub take_answer : List ℕ → Queue → ℕ → ℕ → ℕ → List ℕ → Taken
take_answer s q to level addr out = record {
  refusal = (take_sent s q to level addr out).refusal;
  length = (take_sent s q to level addr out).length;
  after = take_queue s q to level addr out;
}

-- the paper's number and values for each case
unfoldable pub taken_paper : Queue → Result Sent Refusal → Taken
taken_paper q (Ok a) = record { refusal = 0; length = a.length; after = a.after }
taken_paper q (Err r) = record { refusal = number r; length = 0; after = q }
