-- The calls on a queue of numbers: one that is none, and what the call by the record's numbers makes of one that is.
use Prim.Native.Nat.{ℕ, ◌+◌, ◌-◌, ◌<◌}
use mathlib.Core.Path.{◌≡◌, refl, sym, ap, ap₂, ◌∙◌}
use mathlib.Core.List.{List, ◌++◌}
use native.Mathlib.Omega.{arith}
use lib.ListN.{length, take, get_or, set, length-append}
use lib.Seq.{length-take-le}
use borrow.Rule.Slice.PartMut.{mid_of, put_mid}
use Rattle.refusals.proofs.RefusalLaws.{if_taken_lem, if_refused}
use Rattle.totals.specs.Totals.{raised, lowered}
use Rattle.totals.specs.Parts.{droppable, Totalled}
use Rattle.room.specs.Rules.{enter_store, take_buffer}
use Rattle.room.specs.Parts.{unclocked, numbered, clocked, Spot, spot_by, store_by, Step, stayed, step_of}
use Rattle.room.specs.declared.Queue.{Queue}
use Rattle.room.specs.declared.numbers.Numbers.{Numbers}
use Rattle.queue.specs.Calls.{Entered, enter_answer, Taken, take_answer}
use Rattle.queue.proofs.AnswerLaws.{Met, met, Slotted, slotted, entry_refused, entry_done, taken_with, taken_blocks, taken_none, taken_by}
use Rattle.card.specs.Card.{written}
use Rattle.card.proofs.CardLaws.{left_alone, answered}
use Rattle.card_queue.specs.Queues.{queue_of, queue_numbers, kept_refusal}
use Rattle.card_queue.proofs.QueueLaws.{all_put, clocks_32, totals_3, fits}
use Rattle.card_room.specs.Rooms.{kept_enter, kept_store, kept_take, kept_buffer}
use Rattle.card_room.proofs.StoredLaws.{slot_size, slot_first, slot_behind, head_size, head_first, head_behind, lent_on, put_back}

-- the numbers of a queue stored over as many that came
stored_over : (kept : List ℕ) (n : ℕ) (p : Queue) (x : List ℕ) → 0 ≡ n → length x ≡ 70 → length kept ≡ 70 → x ≡ queue_numbers p → x ≡ written n (queue_numbers p) kept
stored_over kept n p x z hx h e = answered n 0 (queue_numbers p) kept z refl x (e ∙ sym (all_put (queue_numbers p) kept (omega (arith, ap length e))))

-- as long with totals moved on
still_70 : (k us : List ℕ) → length k ≡ 70 → length us ≡ 3 → length (take 67 k ++ us) ≡ 70
still_70 k us h e = length-append (take 67 k) us ∙ ap₂ ◌+◌ (length-take-le 67 k (omega arith)) e

module _ (s kept f : List ℕ) (clock : ℕ) where
  pub no_enter : (r : ℕ) → r ≡ kept_refusal kept → (r ≡ 0 → ⊥)
      → (r ≡ (kept_enter s kept f clock).refusal)
      × ((s ≡ kept_store s kept f) × (kept ≡ written (kept_enter s kept f clock).refusal (queue_numbers (kept_enter s kept f clock).after) kept))
  unfolding kept_enter kept_store
  no_enter r e h =
      let n : kept_refusal kept ≡ 0 → ⊥ = λ z. h (e ∙ z) in
      let k : r ≡ (kept_enter s kept f clock).refusal = e ∙ sym (ap (λ (x : Entered). x.refusal) (if_refused (kept_refusal kept) (enter_answer s (queue_of kept) f clock) (record { refusal = kept_refusal kept; after = queue_of kept }) n)) in
      (k, (sym (if_refused (kept_refusal kept) (enter_store s (queue_of kept) f) s n), left_alone _ r _ kept k h))

  module _ (z : kept_refusal kept ≡ 0) (w : Numbers) (e : numbered w ≡ unclocked (queue_of kept)) (spot : Spot) (t : List ℕ) (es : spot ≡ spot_by (length s) (numbered w) f)
      (et : t ≡ store_by s (numbered w) f) where
    enter_size : length kept ≡ 70
    enter_size = (fits kept z).0

    m : Met s (queue_of kept) f spot t
    m = met s (queue_of kept) f spot t w e (clocks_32 kept enter_size) es et

    pub slot_for : spot.refusal ≡ 0 → Slotted (queue_of kept) f spot
    slot_for n = slotted s (queue_of kept) f clock spot t m n

    enter_called : kept_enter s kept f clock ≡ enter_answer s (queue_of kept) f clock
    unfolding kept_enter
    enter_called = if_taken_lem (kept_refusal kept) (enter_answer s (queue_of kept) f clock) (record { refusal = kept_refusal kept; after = queue_of kept }) z

    store_called : kept_store s kept f ≡ enter_store s (queue_of kept) f
    unfolding kept_store
    store_called = if_taken_lem (kept_refusal kept) (enter_store s (queue_of kept) f) s z

    pub enter_refused : (spot.refusal ≡ 0 → ⊥)
        → (spot.refusal ≡ (kept_enter s kept f clock).refusal)
        × ((t ≡ kept_store s kept f) × (kept ≡ written (kept_enter s kept f clock).refusal (queue_numbers (kept_enter s kept f clock).after) kept))
    enter_refused h =
        let a = entry_refused s (queue_of kept) f clock spot t m h in
        let k : spot.refusal ≡ (kept_enter s kept f clock).refusal = ap (λ (x : Entered). x.refusal) (a.0 ∙ sym enter_called) in
        (k, (a.1.0 ∙ sym store_called, left_alone _ spot.refusal _ kept k h))

    -- the numbers stored before the totals
    abbrev pub entered_kept : List ℕ
    entered_kept = set (set (set kept 2 (get_or kept 2 0 + 1)) (3 + spot.slot) (length f)) (35 + spot.slot) clock

    module _ (n : spot.refusal ≡ 0) where
      below : spot.slot < 32
      below = (slot_for n).below

      pub entered_size : length entered_kept ≡ 70
      entered_size = slot_size kept enter_size (get_or kept 2 0 + 1) (length f) clock spot.slot below

      -- the totals that are lent on
      entered_totals : mid_of 67 (length entered_kept - 67) entered_kept ≡ (queue_of kept).totals
      entered_totals = lent_on entered_kept entered_size ∙ slot_behind kept enter_size (get_or kept 2 0 + 1) (length f) clock spot.slot below

      pub raisable : Totalled (mid_of 67 (length entered_kept - 67) entered_kept)
      raisable = rw entered_totals (slot_for n).totals

      pub enter_done : (us : List ℕ) → length us ≡ length (mid_of 67 (length entered_kept - 67) entered_kept) → ((g : List ℕ) → spot.blocks ≡ droppable g → us ≡ raised g (mid_of 67 (length entered_kept - 67) entered_kept))
          → (0 ≡ (kept_enter s kept f clock).refusal)
          × ((t ≡ kept_store s kept f)
          × (put_mid 67 (length entered_kept - 67) entered_kept us ≡ written (kept_enter s kept f clock).refusal (queue_numbers (kept_enter s kept f clock).after) kept))
      enter_done us as_many raise =
          let up : (g : List ℕ) → spot.blocks ≡ droppable g → us ≡ raised g (queue_of kept).totals = λ g e. raise g e ∙ ap (raised g) entered_totals in
          let a = entry_done s (queue_of kept) f clock spot t m n _ _ us refl refl up in
          let told = a.0 ∙ sym enter_called in
          let k : 0 ≡ (kept_enter s kept f clock).refusal = ap (λ (x : Entered). x.refusal) told in
          let made : take 67 entered_kept ++ us ≡ queue_numbers (kept_enter s kept f clock).after =
          ap (λ (x : List ℕ). x ++ us) (slot_first kept enter_size (get_or kept 2 0 + 1) (length f) clock spot.slot below) ∙ ap (λ (y : Entered). queue_numbers y.after) told in (
            k,
            (
              a.1.0 ∙ sym store_called,
              put_back entered_kept entered_size us
                  ∙ stored_over kept (kept_enter s kept f clock).refusal (kept_enter s kept f clock).after (take 67 entered_kept ++ us) k
                  (still_70 entered_kept us entered_size (as_many ∙ ap length entered_totals ∙ totals_3 kept enter_size)) enter_size made,
            ),
          )

module _ (s kept : List ℕ) (to level addr : ℕ) (out : List ℕ) where
  -- what the four clauses say of a number, a length, the buffer and the queue
  abbrev pub Takes : ℕ → ℕ → List ℕ → List ℕ → Type 0
  Takes r n o k =
      (r ≡ (kept_take s kept to level addr out).refusal)
      × ((n ≡ (kept_take s kept to level addr out).length)
      × ((o ≡ kept_buffer s kept to level addr out)
      × (k ≡ written (kept_take s kept to level addr out).refusal (queue_numbers (kept_take s kept to level addr out).after) kept)))

  -- a call that is refused, whatever refuses it
  stopped : (r : ℕ) (o : List ℕ) → record { refusal = r; length = 0; after = queue_of kept } ≡ kept_take s kept to level addr out → o ≡ kept_buffer s kept to level addr out
      → (r ≡ 0 → ⊥) → Takes r 0 o kept
  stopped r o e eo h =
      let k : r ≡ (kept_take s kept to level addr out).refusal = ap (λ (x : Taken). x.refusal) e in
      (k, (ap (λ (x : Taken). x.length) e, (eo, left_alone _ r _ kept k h)))

  -- a queue that is none
  pub no_take : (r : ℕ) → r ≡ kept_refusal kept → (r ≡ 0 → ⊥) → Takes r 0 out kept
  unfolding kept_take kept_buffer
  no_take r e h =
      let n : kept_refusal kept ≡ 0 → ⊥ = λ z. h (e ∙ z) in
      stopped r out
      (ap (λ (k : ℕ). record { refusal = k; length = 0; after = queue_of kept }) e ∙ sym (if_refused (kept_refusal kept) (take_answer s (queue_of kept) to level addr out) _ n))
      (sym (if_refused (kept_refusal kept) (take_buffer s (queue_of kept) to level addr out) out n)) h

  module _ (z : 0 ≡ kept_refusal kept) (w : Numbers) (e : numbered w ≡ unclocked (queue_of kept)) (cs : List ℕ) (ec : cs ≡ (queue_of kept).clocks) (step : Step)
      (es : step ≡ step_of s (clocked w cs) to level addr out) where
    take_size : length kept ≡ 70
    take_size = (fits kept (sym z)).0

    clocks : length (queue_of kept).clocks ≡ 32
    clocks = clocks_32 kept take_size

    step_is : step ≡ step_of s (clocked w (queue_of kept).clocks) to level addr out
    step_is = es ∙ ap (λ (x : List ℕ). step_of s (clocked w x) to level addr out) ec

    take_called : take_answer s (queue_of kept) to level addr out ≡ kept_take s kept to level addr out
    unfolding kept_take
    take_called = sym (if_taken_lem (kept_refusal kept) (take_answer s (queue_of kept) to level addr out) _ (sym z))

    buffer_called : take_buffer s (queue_of kept) to level addr out ≡ kept_buffer s kept to level addr out
    unfolding kept_buffer
    buffer_called = sym (if_taken_lem (kept_refusal kept) (take_buffer s (queue_of kept) to level addr out) out (sym z))

    -- the numbers stored before the totals
    abbrev pub taken_kept : List ℕ
    taken_kept = set (set (set kept 0 step.head) 1 step.first) 2 step.count

    pub taken_size : length taken_kept ≡ 70
    taken_size = head_size kept take_size step.head step.first step.count

    taken_totals : mid_of 67 (length taken_kept - 67) taken_kept ≡ (queue_of kept).totals
    taken_totals = lent_on taken_kept taken_size ∙ head_behind kept take_size step.head step.first step.count

    pub lowerable : (length (mid_of 67 (length taken_kept - 67) taken_kept) ≡ 3) × (step.blocks < 4)
    lowerable = (
      ap length taken_totals ∙ totals_3 kept take_size,
      taken_blocks s (queue_of kept) to level addr out w e clocks step step_is,
    )

    module _ (after : List ℕ) (eb : after ≡ take_buffer s (clocked w cs) to level addr out) where
      buffer_is : after ≡ take_buffer s (clocked w (queue_of kept).clocks) to level addr out
      buffer_is = eb ∙ ap (λ (x : List ℕ). take_buffer s (clocked w x) to level addr out) ec

      pub take_refused : (r : ℕ) → step ≡ stayed r 0 (clocked w cs) → (r ≡ 0 → ⊥) → Takes r 0 after kept
      take_refused r x h =
          let t = taken_none s (queue_of kept) to level addr out w e clocks r (sym (x ∙ ap (λ (c : List ℕ). stayed r 0 (clocked w c)) ec) ∙ step_is) after buffer_is in
          stopped r after (t.0 ∙ take_called) (t.1.0 ∙ buffer_called) h

      pub take_done : step.refusal ≡ 0 → (us : List ℕ) → length us ≡ length (mid_of 67 (length taken_kept - 67) taken_kept)
          → ((g : List ℕ) → step.blocks ≡ droppable g → us ≡ lowered g (mid_of 67 (length taken_kept - 67) taken_kept))
          → Takes 0 step.length after (put_mid 67 (length taken_kept - 67) taken_kept us)
      take_done done us as_many lower =
          let down : (g : List ℕ) → step.blocks ≡ droppable g → us ≡ lowered g (queue_of kept).totals = λ g b. lower g b ∙ ap (lowered g) taken_totals in
          let t = taken_by s (queue_of kept) to level addr out w e clocks step step_is after buffer_is us down in
          let so : taken_with step (queue_of kept).lengths (queue_of kept).clocks us ≡ kept_take s kept to level addr out = t.0 ∙ take_called in
          let number : 0 ≡ (kept_take s kept to level addr out).refusal = sym done ∙ ap (λ (x : Taken). x.refusal) so in
          let made : take 67 taken_kept ++ us ≡ queue_numbers (kept_take s kept to level addr out).after =
          ap (λ (x : List ℕ). x ++ us) (head_first kept take_size step.head step.first step.count) ∙ ap (λ (x : Taken). queue_numbers x.after) so in (
            number,
            (
              ap (λ (x : Taken). x.length) so,
              (
                t.1.0 ∙ buffer_called,
                put_back taken_kept taken_size us
                    ∙ stored_over kept _ (kept_take s kept to level addr out).after (take 67 taken_kept ++ us) number (still_70 taken_kept us taken_size (as_many ∙ lowerable.0)) take_size made,
              ),
            ),
          )
