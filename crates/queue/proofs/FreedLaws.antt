-- What a question is answered with after any sequence of calls, and what the number means: the octets by which all that wait are shorter once they are sent on.
use Prim.Native.Nat.{ℕ, ◌+◌, ◌≤◌}
use mathlib.Core.Path.{◌≡◌, refl, ap, ap₂, ◌∙◌}
use mathlib.Core.Bool.{false}
use mathlib.Core.List.{List, [], ◌∷◌, ◌++◌}
use native.Mathlib.Omega.{arith}
use lib.ListN.{length, drop}
use borrow.Author.Tests.{le-ltb, ne_eqb}
use Rattle.refusals.specs.Refusals.{◌or_else◌, address_bad}
use Rattle.refusals.proofs.RefusalLaws.{or_else_zero, if_taken_lem, if_refused, by_taken}
use Rattle.frame.specs.Orders.{taken_refusal}
use Rattle.onward.specs.Onward.{wait_of, onward}
use Rattle.onward.specs.Sent.{Sent}
use Rattle.totals.specs.Totals.{levels, total}
use Rattle.totals.proofs.TotalsLaws.{total_is, total_most}
use Rattle.room.specs.Plain.{Kept, kept, together, enter_order, refusal26, first_answer, left, gives_all}
use Rattle.room.specs.Waiting.{waiting, Lets, Counted}
use Rattle.room.specs.Rules.{freed_refusal, GivenBack, freed_answer}
use Rattle.room.specs.declared.Queue.{Queue}
use Rattle.room.proofs.InsideLaws.{inside}
use Rattle.room.proofs.GivesLaws.{gives_all_none}
use Rattle.room.proofs.FreedLaws.{freed_14}
use Rattle.room.proofs.CountLaws.{counted_covered}
use Rattle.room.proofs.ShrinkLaws.{shrinks, node_answers}
use Rattle.queue.specs.Calls.{fresh_queue}
use Rattle.queue.specs.Sequence.{Call, Comes, Goes, answers, store_after_all, queue_after_all, after_all, plain_sent, plain_answer, plain_after, plain_answers, plain_after_all, all_go, sent_together}
use Rattle.queue.proofs.SequenceLaws.{as_a_list, left_as_a_list, lets_all, counted_all, fresh_empty, fresh_lets, fresh_counted}

abbrev pub given : ℕ → GivenBack
given octets = record { refusal = 0; octets = octets }

-- of a record whose totals are the full sums, a level of 0 to 3 is answered with its own
pub freed_counted : (s : List ℕ) (q : Queue) → Lets (length s) q → Counted s q → (level : ℕ) → level ≤ 3 → freed_answer q level ≡ given (gives_all level (waiting s q))
unfolding freed_answer
freed_counted s q l e level low =
    let z : freed_refusal q level ≡ 0 = ap₂ ◌or_else◌ (freed_14 q (length s) l.inside) (simp (le-ltb 3 level low)) in
    if_taken_lem (freed_refusal q level) _ _ z
    ∙ ap given (ap (λ (ts : List ℕ). total ts level) e ∙ total_is (λ n. gives_all n (waiting s q)) (gives_all_none (waiting s q)) level low)

module _ (cs : List Call) (s : List ℕ) (q : Queue) (l : Lets (length s) q) (e : Counted s q) where
  in_the_end : Lets (length (store_after_all s q cs)) (queue_after_all s q cs)
  in_the_end = (lets_all cs s q l (counted_covered s q e)).0

  pub list_left : after_all s q cs ≡ plain_after_all (length s) (waiting s q) cs
  list_left = left_as_a_list cs s q l (counted_covered s q e)

  -- after any sequence of calls each total is the full sum over the plain list
  pub totals_as_a_list : (queue_after_all s q cs).totals ≡ levels (λ level. gives_all level (plain_after_all (length s) (waiting s q) cs))
  totals_as_a_list = counted_all cs s q l e ∙ ap (λ (w : List Kept). levels (λ level. gives_all level w)) list_left

  -- and so is the answer for each level
  pub freed_as_a_list : (level : ℕ) → level ≤ 3 → freed_answer (queue_after_all s q cs) level ≡ given (gives_all level (plain_after_all (length s) (waiting s q) cs))
  freed_as_a_list level low =
      freed_counted (store_after_all s q cs) (queue_after_all s q cs) in_the_end (counted_all cs s q l e) level low ∙ ap (λ (w : List Kept). given (gives_all level w)) list_left

  -- no total is ever above 1,536
  pub never_overfull : (level : ℕ) → total (queue_after_all s q cs).totals level ≤ 1536
  never_overfull = total_most 1536 (queue_after_all s q cs).totals (inside (length (store_after_all s q cs)) (queue_after_all s q cs) in_the_end.inside).totals

-- from a fresh record on, in every store of at most 16,384 octets
pub totals_from_fresh : (s : List ℕ) (cs : List Call) → length s ≤ 16384 → let w = plain_after_all (length s) [] cs in let q = queue_after_all s fresh_queue cs in
    (q.totals ≡ levels (λ level. gives_all level w))
    × ((level : ℕ) → level ≤ 3 → freed_answer q level ≡ given (gives_all level w))
    × ((level : ℕ) → total q.totals level ≤ 1536)
totals_from_fresh s cs h =
    let l = fresh_lets (length s) h in
    let e = fresh_counted s in (
      totals_as_a_list cs s fresh_queue l e ∙ ap (λ (w : List Kept). levels (λ level. gives_all level (plain_after_all (length s) w cs))) (fresh_empty s),
      λ level low. freed_as_a_list cs s fresh_queue l e level low ∙ ap (λ (w : List Kept). given (gives_all level (plain_after_all (length s) w cs))) (fresh_empty s),
      never_overfull cs s fresh_queue l e,
    )

-- ---- what the number means

-- frames that a node takes, as all are that came by the calls
data AllTaken : List Kept → Type 0 where
  none : AllTaken []
  more : {k : Kept} {w : List Kept} → taken_refusal k.octets ≡ 0 → AllTaken w → AllTaken (k ∷ w)

one_more : (w : List Kept) (f : List ℕ) (clock : ℕ) → AllTaken w → taken_refusal f ≡ 0 → AllTaken (w ++ kept f clock ∷ [])
one_more [] f clock none z = more z none
one_more (k ∷ w) f clock (more t all) z = more t (one_more w f clock all z)

others : (w : List Kept) → AllTaken w → AllTaken (drop 1 w)
others [] none = none
others (k ∷ w) (more t all) = all

after_taken : (n : ℕ) (w : List Kept) (c : Call) → AllTaken w → AllTaken (plain_after n w c)
unfolding plain_after
after_taken n w (Comes f clock) all =
    by_taken (enter_order n w f)
    (λ z. rw (if_taken_lem (enter_order n w f) (w ++ kept f clock ∷ []) w z) (one_more w f clock all (or_else_zero (taken_refusal f) _ z).0))
    (λ h. rw (if_refused (enter_order n w f) (w ++ kept f clock ∷ []) w h) all)
after_taken n w (Goes to level addr out) all =
    let r : ℕ = (plain_sent w to level addr out).refusal in
    by_taken r (λ z. rw (if_taken_lem r (drop 1 w) w z) (others w all)) (λ h. rw (if_refused r (drop 1 w) w h) all)

all_taken : (cs : List Call) (n : ℕ) (w : List Kept) → AllTaken w → AllTaken (plain_after_all n w cs)
unfolding plain_after_all
all_taken [] n w all = all
all_taken (c ∷ cs) n w all = all_taken cs n (plain_after n w c) (after_taken n w c all)

module _ (n to level addr : ℕ) (out : List ℕ) (low : level ≤ 3) (ranged : address_bad addr ≡ false) (room : 138 ≤ length out) where
  -- the first goes
  first_goes : (k : Kept) (w : List Kept) → taken_refusal k.octets ≡ 0
      → plain_sent (k ∷ w) to level addr out ≡ record { refusal = 0; length = length (onward level (wait_of k.reading to) addr k.octets) }
  unfolding first_answer
  first_goes k w z =
      let some : refusal26 (k ∷ w) ≡ 0 = simp (ne_eqb (length (k ∷ w)) 0 (λ e. omega arith)) in
      if_taken_lem (refusal26 (k ∷ w)) _ _ some ∙ node_answers level (wait_of k.reading to) addr k.octets out z low ranged room

  -- and so do all of them
  all_gone : (w : List Kept) → AllTaken w → plain_after_all n w (all_go (length w) to level addr out) ≡ []
  unfolding plain_after_all plain_after
  all_gone [] none = refl
  all_gone (k ∷ w) (more t all) =
      ap (λ (x : Sent). plain_after_all n (left x.refusal (k ∷ w)) (all_go (length w) to level addr out)) (first_goes k w t) ∙ all_gone w all

  shorter : (w : List Kept) → AllTaken w → sent_together (plain_answers n w (all_go (length w) to level addr out)) + gives_all level w ≡ together w
  unfolding plain_answers plain_answer plain_after sent_together gives_all together
  shorter [] none = refl
  shorter (k ∷ w) (more t all) = rw (first_goes k w t) (omega (arith, shrinks level (wait_of k.reading to) addr k.octets t, shorter w all))

-- from a fresh record on, in every store of at most 16,384 octets: what a level is said to give back is what the lengths of all that wait shrink by when all
-- of them are taken at that level
pub given_back : (s : List ℕ) (cs : List Call) → length s ≤ 16384
    → (to level addr : ℕ) (out : List ℕ) → level ≤ 3 → address_bad addr ≡ false → 138 ≤ length out
    → let t = store_after_all s fresh_queue cs in let q = queue_after_all s fresh_queue cs in let go = all_go (length (waiting t q)) to level addr out in
    (after_all t q go ≡ []) × (sent_together (answers t q go) + (freed_answer q level).octets ≡ together (waiting t q))
given_back s cs h to level addr out low ranged room =
    let l = fresh_lets (length s) h in
    let e = fresh_counted s in
    let t : List ℕ = store_after_all s fresh_queue cs in
    let q : Queue = queue_after_all s fresh_queue cs in
    let go : List Call = all_go (length (waiting t q)) to level addr out in
    let l' : Lets (length t) q = in_the_end cs s fresh_queue l e in
    let e' : Counted t q = counted_all cs s fresh_queue l e in
    let all : AllTaken (waiting t q) = rw (list_left cs s fresh_queue l e, fresh_empty s) (all_taken cs (length s) [] none) in
    let octets : (freed_answer q level).octets ≡ gives_all level (waiting t q) = ap (λ (x : GivenBack). x.octets) (freed_counted t q l' e' level low) in (
      left_as_a_list go t q l' (counted_covered t q e') ∙ all_gone (length t) to level addr out low ranged room (waiting t q) all,
      ap₂ ◌+◌ (ap sent_together (as_a_list go t q l' (counted_covered t q e'))) octets ∙ shorter (length t) to level addr out low ranged room (waiting t q) all,
    )
