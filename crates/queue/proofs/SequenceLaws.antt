-- Any sequence of calls answers as a plain list would, and leaves waiting what the list has.
use Prim.Native.Nat.{ℕ, ◌≤◌}
use mathlib.Core.Path.{◌≡◌, refl, ap, ap₂, ◌∙◌}
use mathlib.Core.List.{List, [], ◌∷◌}
use native.Mathlib.Omega.{arith}
use lib.ListN.{length}
use borrow.Author.Tests.{le-ltb}
use Rattle.refusals.specs.Refusals.{◌or_else◌}
use Rattle.onward.specs.Sent.{Sent}
use Rattle.ring.specs.Ring.{sum}
use Rattle.totals.specs.Totals.{any_above}
use Rattle.room.specs.Plain.{Kept, enter_order, refusal26, sent_past, buffer_past, entered, left, gives_all}
use Rattle.room.specs.Waiting.{cut, waiting, outside, Lets, Counted, Covered}
use Rattle.room.specs.Rules.{enter_refusal, take_sent, take_buffer}
use Rattle.room.specs.declared.Queue.{Queue}
use Rattle.queue.specs.Calls.{fresh_queue, enter_answer, take_answer}
use Rattle.queue.specs.Sequence.{Call, Comes, Goes, Answer, came, went, answer, store_after, queue_after, answers, plain_sent, plain_answer, plain_after, plain_answers, store_after_all, queue_after_all, after_all, plain_after_all}
use Rattle.room.proofs.EnterLaws.{store_size, enter_waits, enter_lets}
use Rattle.room.proofs.TakeLaws.{take_waits, take_lets}
use Rattle.room.proofs.CountLaws.{counted_covered, enter_counted, enter_covered, take_counted, take_covered}

module _ (s : List ℕ) (q : Queue) (l : Lets (length s) q) where
  -- past 14 the orders are the list's
  enter_plain : (f : List ℕ) → enter_refusal s q f ≡ enter_order (length s) (waiting s q) f
  unfolding enter_refusal
  enter_plain f = ap (λ (r : ℕ). r or_else enter_order (length s) (waiting s q) f) l.inside

  sent_plain : (to level addr : ℕ) (out : List ℕ) → take_sent s q to level addr out ≡ plain_sent (waiting s q) to level addr out
  unfolding take_sent
  sent_plain to level addr out =
      ap (λ (r : ℕ). sent_past (r or_else refusal26 (waiting s q)) (waiting s q) to level addr out) l.inside

  pub answer_plain : (c : Call) → answer s q c ≡ plain_answer (length s) (waiting s q) c
  unfolding answer plain_answer take_buffer enter_answer take_answer
  answer_plain (Comes f clock) = ap came (enter_plain f)
  answer_plain (Goes to level addr out) =
      ap₂ (λ (x : Sent) (b : List ℕ). went x.refusal x.length b) (sent_plain to level addr out) (ap (λ (r : ℕ). buffer_past (r or_else refusal26 (waiting s q)) (waiting s q) to level addr out) l.inside)

  pub after_plain : (c : Call) → waiting (store_after s q c) (queue_after s q c) ≡ plain_after (length s) (waiting s q) c
  unfolding store_after queue_after plain_after enter_answer take_answer
  after_plain (Comes f clock) =
      enter_waits s q f l.lengths_32 l.clocks_32 clock ∙ ap (λ (r : ℕ). entered r (waiting s q) f clock) (enter_plain f)
  after_plain (Goes to level addr out) =
      take_waits s q l.lengths_32 l.clocks_32 to level addr out ∙ ap (λ (x : Sent). left x.refusal (waiting s q)) (sent_plain to level addr out)

  size_after : (c : Call) → length (store_after s q c) ≡ length s
  unfolding store_after
  size_after (Comes f clock) = store_size s q f l.lengths_32 l.clocks_32
  size_after (Goes to level addr out) = refl

  pub lets_after : Covered s q → (c : Call) → Lets (length (store_after s q c)) (queue_after s q c)
  unfolding store_after queue_after enter_answer take_answer
  lets_after v (Comes f clock) = enter_lets s q f l.lengths_32 l.clocks_32 clock l v
  lets_after v (Goes to level addr out) = take_lets s q l.lengths_32 l.clocks_32 to level addr out l

  pub covered_after : Covered s q → (c : Call) → Covered (store_after s q c) (queue_after s q c)
  unfolding store_after queue_after enter_answer take_answer
  covered_after v (Comes f clock) = enter_covered s q l.lengths_32 l.clocks_32 f clock v
  covered_after v (Goes to level addr out) = take_covered s q l.lengths_32 l.clocks_32 to level addr out v

  pub counted_after : Counted s q → (c : Call) → Counted (store_after s q c) (queue_after s q c)
  unfolding store_after queue_after enter_answer take_answer
  counted_after e (Comes f clock) = enter_counted s q l.lengths_32 l.clocks_32 f clock e
  counted_after e (Goes to level addr out) = take_counted s q l.lengths_32 l.clocks_32 to level addr out e

-- the answers of any sequence of calls are those of the plain list: 25 comes exactly where the list has no room, so that none is lost
pub as_a_list : (cs : List Call) (s : List ℕ) (q : Queue) → Lets (length s) q → Covered s q → answers s q cs ≡ plain_answers (length s) (waiting s q) cs
unfolding answers plain_answers
as_a_list [] s q l v = refl
as_a_list (c ∷ cs) s q l v =
    ap₂ (λ (a : Answer) (more : List Answer). a ∷ more) (answer_plain s q l c)
    (as_a_list cs (store_after s q c) (queue_after s q c) (lets_after s q l v c) (covered_after s q l v c)
    ∙ ap₂ (λ (n : ℕ) (w : List Kept). plain_answers n w cs) (size_after s q l c) (after_plain s q l c))

-- and what waits in the end is what the list has
pub left_as_a_list : (cs : List Call) (s : List ℕ) (q : Queue) → Lets (length s) q → Covered s q → after_all s q cs ≡ plain_after_all (length s) (waiting s q) cs
unfolding store_after_all queue_after_all plain_after_all
left_as_a_list [] s q l v = refl
left_as_a_list (c ∷ cs) s q l v =
    left_as_a_list cs (store_after s q c) (queue_after s q c) (lets_after s q l v c) (covered_after s q l v c)
    ∙ ap₂ (λ (n : ℕ) (w : List Kept). plain_after_all n w cs) (size_after s q l c) (after_plain s q l c)

-- what 14 lets by it lets by after all of them, in a store as long
pub lets_all : (cs : List Call) (s : List ℕ) (q : Queue) → Lets (length s) q → Covered s q
    → Lets (length (store_after_all s q cs)) (queue_after_all s q cs) × (length (store_after_all s q cs) ≡ length s)
unfolding store_after_all queue_after_all
lets_all [] s q l v = (l, refl)
lets_all (c ∷ cs) s q l v =
    let r = lets_all cs (store_after s q c) (queue_after s q c) (lets_after s q l v c) (covered_after s q l v c) in
    (r.0, r.1 ∙ size_after s q l c)

-- each total that was the full sum over what waited is the full sum over what waits in the end
pub counted_all : (cs : List Call) (s : List ℕ) (q : Queue) → Lets (length s) q → Counted s q → Counted (store_after_all s q cs) (queue_after_all s q cs)
unfolding store_after_all queue_after_all
counted_all [] s q l e = e
counted_all (c ∷ cs) s q l e =
    counted_all cs (store_after s q c) (queue_after s q c) (lets_after s q l (counted_covered s q e) c) (counted_after s q l e c)

-- a fresh record holds nothing, in any store of at most 16,384 octets
pub fresh_empty : (s : List ℕ) → waiting s fresh_queue ≡ []
unfolding waiting cut
fresh_empty s = refl

pub fresh_lets : (n : ℕ) → n ≤ 16384 → Lets n fresh_queue
unfolding outside sum any_above
fresh_lets n h = record { lengths_32 = refl; clocks_32 = refl; totals_3 = refl; inside = simp (le-ltb 16384 n h, le-ltb n 0 (omega arith)) }

pub fresh_counted : (s : List ℕ) → Counted s fresh_queue
unfolding gives_all
fresh_counted s = rw (fresh_empty s) refl

-- from a fresh record on
pub from_fresh : (s : List ℕ) (cs : List Call) → length s ≤ 16384
    → (answers s fresh_queue cs ≡ plain_answers (length s) [] cs) × (after_all s fresh_queue cs ≡ plain_after_all (length s) [] cs)
from_fresh s cs h =
    let v = counted_covered s fresh_queue (fresh_counted s) in (
      as_a_list cs s fresh_queue (fresh_lets (length s) h) v ∙ ap (λ (w : List Kept). plain_answers (length s) w cs) (fresh_empty s),
      left_as_a_list cs s fresh_queue (fresh_lets (length s) h) v ∙ ap (λ (w : List Kept). plain_after_all (length s) w cs) (fresh_empty s),
    )
