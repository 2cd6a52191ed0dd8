-- The first is to go: by the record's numbers and by the plain list, and what waits once it has gone.
use Prim.Native.Nat.{ℕ, zero, suc, ◌+◌, ◌-◌, ◌≤◌, ◌<◌}
use mathlib.Core.Path.{◌≡◌, refl, sym, subst, ap, ap₂, ◌∙◌}
use mathlib.Core.List.{List, [], ◌∷◌, ◌++◌}
use native.Mathlib.Omega.{arith}
use lib.Dec.{eqb}
use lib.ListN.{length, take, drop, get_or, length-drop}
use borrow.Author.Tests.{eqb-false}
use Rattle.std.specs.Prelude.{Result, Ok, Err}
use Rattle.refusals.specs.Refusals.{◌or_else◌, refuse, if_taken, number}
use Rattle.refusals.specs.declared.Refusal.{Refusal}
use Rattle.refusals.proofs.RefusalLaws.{number_positive, number_stands, number_refuses, or_else_zero, refuse_zero, if_taken_lem, if_refused, by_first, by_taken}
use Rattle.onward.specs.Onward.{wait_of}
use Rattle.onward.specs.Sent.{Sent}
use Rattle.node.specs.Node.{forward_answer, forward_buffer}
use Rattle.ring.specs.Ring.{place_after, turned, sum}
use Rattle.ring.proofs.RingLaws.{turned_length, turned_straight, turned_after, place_within, place_below}
use Rattle.ring.proofs.SlotLaws.{used_first}
use Rattle.totals.specs.Totals.{gives, total, lowered}
use Rattle.totals.specs.Parts.{droppable}
use Rattle.totals.proofs.TotalsLaws.{droppable_few, lowered_none, none_overfull, total_most}
use Rattle.room.specs.Plain.{Kept, kept, first_of, first_answer, first_buffer, left}
use Rattle.room.specs.Waiting.{cut, lengths_of, clocks_of, waiting, refusal14, Lets}
use Rattle.room.specs.Rules.{none_to_take, take_sent, take_buffer, without_first, take_queue}
use Rattle.room.specs.Parts.{octets_from, sent_of, Counts, step_of, step_paper}
use Rattle.room.specs.declared.Queue.{Queue}
use Rattle.room.specs.declared.Gone.{Gone}
use Rattle.room.proofs.CutLaws.{cut_more}
use Rattle.room.proofs.InsideLaws.{Inside, inside, let_by, waiting_count}

-- what became of a frame
module _ (level wait addr : ℕ) (out : List ℕ) where
  abbrev pub Went : List ℕ → Result Gone Refusal → List ℕ → Type 0
  Went f gone b = ((sent_of gone ≡ forward_answer level wait addr f out) × Counts f gone) × (b ≡ forward_buffer level wait addr f out)

pub no_zero : (r : Refusal) → number r ≡ 0 → ⊥
no_zero r z = let p = number_positive r in omega (arith, z, p)

-- 14 and 26 by the record's numbers
abbrev pub none_by : ℕ → Queue → ℕ
none_by n q = refusal14 n q or_else refuse (eqb q.count 0) 26

pub some_wait : (n : ℕ) (q : Queue) → none_by n q ≡ 0 → Inside n q × (0 < q.count)
some_wait n q z = let p = or_else_zero _ _ z in (inside n q p.0, above q.count (eqb-false _ _ (refuse_zero _ 25 p.1))) where
  above : (k : ℕ) → (k ≡ 0 → ⊥) → 0 < k
  above zero d = absurd (d refl)
  above (suc k) d = omega arith

-- each of the two as the code finds it
pub at_14 : (n : ℕ) (q : Queue) (r : Refusal) → number r ≡ refusal14 n q → number r ≡ none_by n q
at_14 n q r e = sym (number_stands r _) ∙ ap (λ (k : ℕ). k or_else refuse (eqb q.count 0) 26) e

pub at_26 : (n : ℕ) (q : Queue) (k : ℕ) → 0 ≡ refusal14 n q → k ≡ refuse (eqb q.count 0) 26 → k ≡ none_by n q
at_26 n q k e d = d ∙ ap (λ (j : ℕ). j or_else refuse (eqb q.count 0) 26) e

-- the first frame's length and reading
abbrev pub length_of : Queue → ℕ
length_of q = get_or q.lengths q.first 0

abbrev pub reading_of : Queue → ℕ
reading_of q = get_or q.clocks q.first 0

module _ (s : List ℕ) (q : Queue) (ll : length q.lengths ≡ 32) (lc : length q.clocks ≡ 32) where
  pub none_is : none_by (length s) q ≡ none_to_take s q
  none_is =
      by_first (refusal14 (length s) q) _ _ (λ z. ap (λ (k : ℕ). refuse (eqb k 0) 26) (sym (waiting_count s q ll lc (inside (length s) q z))))

  module _ (i : Inside (length s) q) (some : 0 < q.count) where
    sums : sum (lengths_of q) ≡ length_of q + sum (lengths_of (without_first s q))
    unfolding sum without_first
    sums = ap sum (used_first q.lengths q.first q.count ll i.slot some i.few)

    pub first_fits : length_of q ≤ length s
    first_fits = omega (arith, sums, i.all)

    -- the first, and behind it all that wait once it has gone
    pub first_waits : waiting s q ≡ kept (octets_from q.head (length_of q) s) (reading_of q) ∷ waiting s (without_first s q)
    unfolding waiting without_first cut turned
    first_waits =
        let R : List ℕ = turned q.head s in
        let l : ℕ = length_of q in
        let p : Queue = without_first s q in
        let on : turned (place_after q.head l (length s)) s ≡ drop l R ++ take l R = turned_after q.head l s i.place first_fits in
        let short : sum (lengths_of p) ≤ length (drop l R) = omega (arith, sums, i.all, length-drop l R, turned_length q.head s) in
        ap₂ (cut R) (used_first q.lengths q.first q.count ll i.slot some i.few) (used_first q.clocks q.first q.count lc i.slot some i.few)
        ∙ ap (λ (w : List Kept). kept (take l R) (reading_of q) ∷ w)
        (sym (ap (λ (x : List ℕ). cut x (lengths_of p) (clocks_of p)) on ∙ cut_more (drop l R) (take l R) (lengths_of p) (clocks_of p) short))

    pub still_inside : Inside (length s) (without_first s q)
    unfolding without_first lowered
    still_inside =
        record {
          store = i.store;
          few = omega (arith, i.few);
          slot = place_below q.first 1 32 i.slot (omega arith);
          place = place_within q.head (length_of q) (length s) i.place first_fits;
          all = omega (arith, sums, i.all);
          totals =
              none_overfull (λ level. total q.totals level - gives level (first_of (waiting s q)).octets)
              (λ level. omega (arith, total_most 1536 q.totals i.totals level));
        }

  module _ (to level addr : ℕ) (out : List ℕ) where
    -- what the node makes of the first
    pub sent_is : none_by (length s) q ≡ 0
        → (take_sent s q to level addr out ≡ forward_answer level (wait_of (reading_of q) to) addr (octets_from q.head (length_of q) s) out)
        × (take_buffer s q to level addr out ≡ forward_buffer level (wait_of (reading_of q) to) addr (octets_from q.head (length_of q) s) out)
    unfolding take_sent take_buffer first_answer first_buffer
    sent_is z =
        let w = some_wait (length s) q z in
        let e = first_waits w.0 w.1 in
        let n = sym none_is ∙ z in
        (if_taken_lem (none_to_take s q) _ _ n ∙ ap (λ (x : List Kept). first_answer x to level addr out) e, if_taken_lem (none_to_take s q) _ _ n ∙ ap (λ (x : List Kept). first_buffer x to level addr out) e)

    -- nothing is to go
    pub none_sent : (none_by (length s) q ≡ 0 → ⊥) → (take_sent s q to level addr out ≡ record { refusal = none_by (length s) q; length = 0 }) × (take_buffer s q to level addr out ≡ out)
    unfolding take_sent take_buffer
    none_sent h =
        let n : none_to_take s q ≡ 0 → ⊥ = λ z. h (none_is ∙ z) in
        (if_refused (none_to_take s q) _ _ n ∙ ap (λ (r : ℕ). record { refusal = r; length = 0 }) (sym none_is), if_refused (none_to_take s q) _ _ n)

    gone : (take_sent s q to level addr out).refusal ≡ 0 → Inside (length s) q × (0 < q.count)
    gone z =
        by_taken (none_by (length s) q) (some_wait (length s) q)
        (λ h. absurd (h (sym (ap (λ (x : Sent). x.refusal) (none_sent h).0) ∙ z)))

    after_done : (take_sent s q to level addr out).refusal ≡ 0 → take_queue s q to level addr out ≡ without_first s q
    unfolding take_queue
    after_done z = if_taken_lem (take_sent s q to level addr out).refusal (without_first s q) q z

    pub after_refused_lem : ((take_sent s q to level addr out).refusal ≡ 0 → ⊥) → take_queue s q to level addr out ≡ q
    unfolding take_queue
    after_refused_lem h = if_refused (take_sent s q to level addr out).refusal (without_first s q) q h

    pub take_waits : waiting s (take_queue s q to level addr out) ≡ left (take_sent s q to level addr out).refusal (waiting s q)
    take_waits =
        by_taken (take_sent s q to level addr out).refusal
        (λ z. ap (waiting s) (after_done z) ∙ sym (if_taken_lem (take_sent s q to level addr out).refusal (drop 1 (waiting s q)) (waiting s q) z ∙ ap (drop 1) (first_waits (gone z).0 (gone z).1)))
        (λ h. ap (waiting s) (after_refused_lem h) ∙ sym (if_refused (take_sent s q to level addr out).refusal (drop 1 (waiting s q)) (waiting s q) h))

    -- what 14 lets by it lets by again
    pub take_lets : Lets (length s) q → Lets (length s) (take_queue s q to level addr out)
    unfolding without_first lowered
    take_lets l =
        by_taken (take_sent s q to level addr out).refusal
        (λ z. subst (Lets (length s)) (sym (after_done z))
        (record { lengths_32 = ll; clocks_32 = lc; totals_3 = refl; inside = let_by (length s) (without_first s q) (still_inside (gone z).0 (gone z).1) }))
        (λ h. rw (after_refused_lem h) l)

    -- the blocks by which the totals fall
    abbrev blocks_of : ℕ → ℕ
    blocks_of refusal = if_taken refusal (droppable (first_of (waiting s q)).octets) 0

    -- the record's numbers after it
    stepped : (sent : Sent) (z : Queue) (blocks : ℕ) → take_sent s q to level addr out ≡ sent → if_taken sent.refusal (without_first s q) q ≡ z → blocks_of sent.refusal ≡ blocks
        → record { refusal = sent.refusal; length = sent.length; head = z.head; first = z.first; count = z.count; blocks = blocks } ≡ step_of s q to level addr out
    unfolding step_of take_queue
    stepped sent z blocks e k b =
        ap₂ (λ (p : Queue) (n : ℕ). record { refusal = sent.refusal; length = sent.length; head = p.head; first = p.first; count = p.count; blocks = n }) (sym k) (sym b)
        ∙ ap (λ (x : Sent). record {
          refusal = x.refusal;
          length = x.length;
          head = (if_taken x.refusal (without_first s q) q).head;
          first = (if_taken x.refusal (without_first s q) q).first;
          count = (if_taken x.refusal (without_first s q) q).count;
          blocks = blocks_of x.refusal;
        }) (sym e)

    -- each way that the code goes
    pub step_none : (r : Refusal) → number r ≡ none_by (length s) q → (step_paper q (Err r) ≡ step_of s q to level addr out) × (out ≡ take_buffer s q to level addr out)
    unfolding step_paper
    step_none r e =
        let w = none_sent (λ z. no_zero r (e ∙ z)) in (
          stepped (record { refusal = number r; length = 0 }) q 0 (w.0 ∙ ap (λ (x : ℕ). record { refusal = x; length = 0 }) (sym e)) (number_refuses r (without_first s q) q) (number_refuses r _ 0),
          sym w.1,
        )

    module _ (z : none_by (length s) q ≡ 0) (after : List ℕ) where
      pub step_refused : (r : Refusal) → Went level (wait_of (reading_of q) to) addr out (octets_from q.head (length_of q) s) (Err r) after
          → (step_paper q (Err r) ≡ step_of s q to level addr out) × (after ≡ take_buffer s q to level addr out)
      unfolding step_paper
      step_refused r went = (
        stepped (sent_of (Err r)) q 0 ((sent_is z).0 ∙ sym went.0.0) (number_refuses r (without_first s q) q) (number_refuses r _ 0),
        went.1 ∙ sym (sent_is z).1,
      )

      pub step_done : (gone : Gone) → Went level (wait_of (reading_of q) to) addr out (octets_from q.head (length_of q) s) (Ok gone) after
          → (head first : ℕ) → head ≡ place_after q.head (length_of q) (length s) → first ≡ place_after q.first 1 32
          → (step_paper q (Ok (record { length = gone.length; head = head; first = first; count = q.count - 1; blocks = gone.blocks })) ≡ step_of s q to level addr out)
          × (after ≡ take_buffer s q to level addr out)
      unfolding step_paper without_first
      step_done gone went head first eh ef =
          let w = some_wait (length s) q z in
          let same : droppable (first_of (waiting s q)).octets ≡ gone.blocks = ap (λ (x : List Kept). droppable (first_of x).octets) (first_waits w.0 w.1) ∙ sym went.0.1 in (
            ap₂ (λ (h k : ℕ). record { refusal = 0; length = gone.length; head = h; first = k; count = q.count - 1; blocks = gone.blocks }) eh ef
                ∙ stepped (sent_of (Ok gone)) (without_first s q) gone.blocks ((sent_is z).0 ∙ sym went.0.0) refl same,
            went.1 ∙ sym (sent_is z).1,
          )

    -- and its slots as they came
    pub slots_stay : ((take_queue s q to level addr out).lengths ≡ q.lengths) × ((take_queue s q to level addr out).clocks ≡ q.clocks)
    unfolding without_first
    slots_stay =
        by_taken (take_sent s q to level addr out).refusal
        (λ z. (ap (λ (p : Queue). p.lengths) (after_done z), ap (λ (p : Queue). p.clocks) (after_done z)))
        (λ h. (ap (λ (p : Queue). p.lengths) (after_refused_lem h), ap (λ (p : Queue). p.clocks) (after_refused_lem h)))

    -- the blocks by which the totals fall are few; and they fall by those of the frame that went, or not at all
    pub blocks_few : (step_of s q to level addr out).blocks < 4
    unfolding step_of
    blocks_few =
        by_taken (take_sent s q to level addr out).refusal
        (λ z. rw (if_taken_lem (take_sent s q to level addr out).refusal (droppable (first_of (waiting s q)).octets) 0 z) (droppable_few (first_of (waiting s q)).octets))
        (λ h. rw (if_refused (take_sent s q to level addr out).refusal (droppable (first_of (waiting s q)).octets) 0 h) (omega arith))

    pub totals_fall : (lt : length q.totals ≡ 3) (us : List ℕ) → ((f : List ℕ) → (step_of s q to level addr out).blocks ≡ droppable f → us ≡ lowered f q.totals)
        → us ≡ (take_queue s q to level addr out).totals
    unfolding step_of without_first
    totals_fall lt us fall =
        by_taken (take_sent s q to level addr out).refusal
        (λ z. fall (first_of (waiting s q)).octets (if_taken_lem (take_sent s q to level addr out).refusal _ 0 z) ∙ sym (ap (λ (p : Queue). p.totals) (after_done z)))
        (λ h. fall [] (if_refused (take_sent s q to level addr out).refusal _ 0 h) ∙ lowered_none [] q.totals lt refl ∙ sym (ap (λ (p : Queue). p.totals) (after_refused_lem h)))
