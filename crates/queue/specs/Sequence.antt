-- Request A6: any sequence of calls, store and record being handed to each call as the last one left them, and the same calls on a plain list. A question
-- (request A7) moves nothing: it may be asked after any of them.
use Rattle.std.specs.Prelude.{ℕ, ◌+◌, List, [], ◌∷◌, replicate}
use Rattle.onward.specs.Sent.{Sent}
use Rattle.room.specs.Plain.{Kept, enter_order, refusal26, sent_past, buffer_past, entered, left}
use Rattle.room.specs.Waiting.{waiting}
use Rattle.room.specs.Rules.{enter_store, take_buffer}
use Rattle.room.specs.declared.Queue.{Queue}
use Rattle.queue.specs.Calls.{enter_answer, take_answer}

-- a frame comes at a clock reading; or the first is to go, with the present reading, level, outgoing address and buffer
pub data Call : Type 0 where
  Comes : List ℕ → ℕ → Call
  Goes : ℕ → ℕ → ℕ → List ℕ → Call

-- what the host sees of a call: the refusal, the length sent on, and what its buffer then holds
pub record Answer : Type 0 where
  pub refusal : ℕ
  pub length : ℕ
  pub buffer : List ℕ

abbrev pub came : ℕ → Answer
came refusal = record { refusal = refusal; length = 0; buffer = [] }

abbrev pub went : ℕ → ℕ → List ℕ → Answer
went refusal length buffer = record { refusal = refusal; length = length; buffer = buffer }

-- on a store and a record
unfoldable pub answer : List ℕ → Queue → Call → Answer
answer s q (Comes f clock) = came (enter_answer s q f clock).refusal
answer s q (Goes to level addr out) = went (take_answer s q to level addr out).refusal (take_answer s q to level addr out).length (take_buffer s q to level addr out)

unfoldable pub store_after : List ℕ → Queue → Call → List ℕ
store_after s q (Comes f clock) = enter_store s q f
store_after s q (Goes to level addr out) = s

unfoldable pub queue_after : List ℕ → Queue → Call → Queue
queue_after s q (Comes f clock) = (enter_answer s q f clock).after
queue_after s q (Goes to level addr out) = (take_answer s q to level addr out).after

unfoldable pub answers : List ℕ → Queue → List Call → List Answer
answers s q [] = []
answers s q (c ∷ cs) = answer s q c ∷ answers (store_after s q c) (queue_after s q c) cs

-- store and record after all of them, and what waits then
unfoldable pub store_after_all : List ℕ → Queue → List Call → List ℕ
store_after_all s q [] = s
store_after_all s q (c ∷ cs) = store_after_all (store_after s q c) (queue_after s q c) cs

unfoldable pub queue_after_all : List ℕ → Queue → List Call → Queue
queue_after_all s q [] = q
queue_after_all s q (c ∷ cs) = queue_after_all (store_after s q c) (queue_after s q c) cs

abbrev pub after_all : List ℕ → Queue → List Call → List Kept
after_all s q cs = waiting (store_after_all s q cs) (queue_after_all s q cs)

-- on a plain list, with room for n octets
abbrev pub plain_sent : List Kept → ℕ → ℕ → ℕ → List ℕ → Sent
plain_sent w to level addr out = sent_past (refusal26 w) w to level addr out

unfoldable pub plain_answer : ℕ → List Kept → Call → Answer
plain_answer n w (Comes f clock) = came (enter_order n w f)
plain_answer n w (Goes to level addr out) = went (plain_sent w to level addr out).refusal (plain_sent w to level addr out).length (buffer_past (refusal26 w) w to level addr out)

unfoldable pub plain_after : ℕ → List Kept → Call → List Kept
plain_after n w (Comes f clock) = entered (enter_order n w f) w f clock
plain_after n w (Goes to level addr out) = left (plain_sent w to level addr out).refusal w

unfoldable pub plain_answers : ℕ → List Kept → List Call → List Answer
plain_answers n w [] = []
plain_answers n w (c ∷ cs) = plain_answer n w c ∷ plain_answers n (plain_after n w c) cs

unfoldable pub plain_after_all : ℕ → List Kept → List Call → List Kept
plain_after_all n w [] = w
plain_after_all n w (c ∷ cs) = plain_after_all n (plain_after n w c) cs

-- request A7: all of n frames are to go at one level; and the lengths that are answered, together
abbrev pub all_go : ℕ → ℕ → ℕ → ℕ → List ℕ → List Call
all_go n to level addr out = replicate n (Goes to level addr out)

unfoldable pub sent_together : List Answer → ℕ
sent_together [] = 0
sent_together (a ∷ answers) = a.length + sent_together answers
