-- The calls on a record by value: what its numbers make, and what waits after it.
use Prim.Native.Nat.{ℕ, ◌+◌, ◌<◌}
use mathlib.Core.Path.{◌≡◌, refl, sym, ap, ap₂, ◌∙◌}
use mathlib.Core.List.{List, []}
use native.Mathlib.Omega.{arith}
use lib.ListN.{length, set}
use Rattle.refusals.proofs.RefusalLaws.{if_taken_lem, if_refused}
use Rattle.ring.specs.Ring.{place_after}
use Rattle.ring.proofs.RingLaws.{place_below}
use Rattle.totals.specs.Totals.{raised, lowered}
use Rattle.totals.specs.Parts.{droppable, Totalled}
use Rattle.totals.proofs.TotalsLaws.{lowered_none}
use Rattle.room.specs.Plain.{entered, left}
use Rattle.room.specs.Waiting.{waiting, outside}
use Rattle.room.specs.Rules.{enter_refusal, with_frame, enter_queue, enter_store, take_buffer, take_queue}
use Rattle.room.specs.Parts.{queue_with, bare, unclocked, outlined, numbered, clocked, entry_by, Spot, spot_by, store_by, Step, stayed, step_of}
use Rattle.room.specs.declared.Queue.{Queue}
use Rattle.room.specs.declared.numbers.Outline.{Outline}
use Rattle.room.specs.declared.numbers.Numbers.{Numbers}
use Rattle.room.proofs.EnterLaws.{by_numbers, roomy, store_is, enter_waits}
use Rattle.room.proofs.TakeLaws.{take_waits, slots_stay, blocks_few, totals_fall}
use Rattle.queue.specs.Calls.{Entered, enter_answer, Taken, take_answer}

-- what a call goes by is the record, whose lengths came as wider numbers
pub same_record : (q : Queue) (o : Outline) (ls : List ℕ) → outlined o ≡ bare q.head q.first q.count [] q.totals → ls ≡ q.lengths
    → bare o.head o.first o.count ls o.totals.now ≡ unclocked q
same_record q o ls e el =
    ap (λ (p : Queue). bare p.head p.first p.count ls p.totals) e ∙ ap (λ (l : List ℕ). bare q.head q.first q.count l q.totals) el

-- so it has 32 slots and three totals
module _ (q : Queue) (w : Numbers) (e : numbered w ≡ unclocked q) where
  pub lengths_are_32 : length q.lengths ≡ 32
  lengths_are_32 = sym (ap (λ (p : Queue). length p.lengths) e) ∙ w.slots.all

  pub totals_are_3 : length q.totals ≡ 3
  totals_are_3 = sym (ap (λ (p : Queue). length p.totals) e) ∙ w.outline.three

  -- and is whole with its clock readings
  pub whole : clocked w q.clocks ≡ q
  whole = ap (λ (p : Queue). queue_with p.head p.first p.count p.lengths q.clocks p.totals) e

-- an entry goes by no clock reading of those that wait
spot_unclocked : (n : ℕ) (q : Queue) (f : List ℕ) → spot_by n (unclocked q) f ≡ spot_by n q f
unfolding spot_by entry_by outside
spot_unclocked n q f = refl

store_unclocked : (s : List ℕ) (q : Queue) (f : List ℕ) → store_by s (unclocked q) f ≡ store_by s q f
unfolding store_by entry_by outside
store_unclocked s q f = refl

-- what entry has made
pub record Met (s : List ℕ) (q : Queue) (f : List ℕ) (spot : Spot) (t : List ℕ) : Type 0 where
  pub lengths_32 : length q.lengths ≡ 32
  pub clocks_32 : length q.clocks ≡ 32
  pub totals_3 : length q.totals ≡ 3
  pub spot_is : spot ≡ spot_by (length s) q f
  pub store_by_lem : t ≡ store_by s q f

pub met : (s : List ℕ) (q : Queue) (f : List ℕ) (spot : Spot) (t : List ℕ) (w : Numbers) → numbered w ≡ unclocked q → length q.clocks ≡ 32
    → spot ≡ spot_by (length s) (numbered w) f → t ≡ store_by s (numbered w) f → Met s q f spot t
met s q f spot t w e lc es et =
    record {
      lengths_32 = lengths_are_32 q w e;
      clocks_32 = lc;
      totals_3 = totals_are_3 q w e;
      spot_is = es ∙ ap (λ (p : Queue). spot_by (length s) p f) e ∙ spot_unclocked (length s) q f;
      store_by_lem = et ∙ ap (λ (p : Queue). store_by s p f) e ∙ store_unclocked s q f;
    }

-- a slot for the frame, and the totals that it is counted in
pub record Slotted (q : Queue) (f : List ℕ) (spot : Spot) : Type 0 where
  pub after_last : spot.slot ≡ place_after q.first q.count 32
  pub below : spot.slot < 32
  pub counted : spot.blocks ≡ droppable f
  pub totals : Totalled q.totals

-- the record with one more, by its slots and totals
abbrev pub entered_with : Queue → List ℕ → List ℕ → List ℕ → Queue
entered_with q ls cs us = queue_with q.head q.first (q.count + 1) ls cs us

module _ (s : List ℕ) (q : Queue) (f : List ℕ) (clock : ℕ) (spot : Spot) (t : List ℕ) (m : Met s q f spot t) where
  number : spot.refusal ≡ entry_by (length s) q f
  unfolding spot_by
  number = ap (λ (x : Spot). x.refusal) m.spot_is

  pub slotted : spot.refusal ≡ 0 → Slotted q f spot
  unfolding spot_by
  slotted z =
      let y = roomy (length s) q f (sym number ∙ z) in
      let e : spot.slot ≡ place_after q.first q.count 32 = ap (λ (x : Spot). x.slot) m.spot_is ∙ if_taken_lem (entry_by (length s) q f) _ 0 (sym number ∙ z) in
      let b : spot.blocks ≡ droppable f = ap (λ (x : Spot). x.blocks) m.spot_is ∙ if_taken_lem (entry_by (length s) q f) _ 0 (sym number ∙ z) in
      record {
        after_last = e;
        below = rw e (place_below q.first q.count 32 y.inside.slot (omega (arith, y.few)));
        counted = b;
        totals = record { three = m.totals_3; within = y.inside.totals };
      }

  -- an answer that is right leaves waiting what is right
  outcome : (a : Entered) → a ≡ enter_answer s q f clock
      → (a ≡ enter_answer s q f clock) × ((t ≡ enter_store s q f) × (waiting t a.after ≡ entered a.refusal (waiting s q) f clock))
  unfolding enter_answer
  outcome a e =
      let et' : t ≡ enter_store s q f = m.store_by_lem ∙ store_is s q f m.lengths_32 m.clocks_32 in (
        e,
        (et', ap₂ (λ (x : List ℕ) (y : Entered). waiting x y.after) et' e ∙ enter_waits s q f m.lengths_32 m.clocks_32 clock ∙ ap (λ (y : Entered). entered y.refusal (waiting s q) f clock) (sym e)),
      )

  pub entry_refused : (spot.refusal ≡ 0 → ⊥)
      → (record { refusal = spot.refusal; after = q } ≡ enter_answer s q f clock)
      × ((t ≡ enter_store s q f) × (waiting t q ≡ entered spot.refusal (waiting s q) f clock))
  unfolding enter_answer enter_queue
  entry_refused h =
      let e : spot.refusal ≡ enter_refusal s q f = number ∙ by_numbers s q f m.lengths_32 m.clocks_32 in
      outcome (record { refusal = spot.refusal; after = q })
      (ap₂ (λ (r : ℕ) (p : Queue). record { refusal = r; after = p }) e (sym (if_refused (enter_refusal s q f) (with_frame q f clock) q (λ z. h (e ∙ z)))))

  pub entry_done : (z : spot.refusal ≡ 0) (ls cs us : List ℕ) → ls ≡ set q.lengths spot.slot (length f) → cs ≡ set q.clocks spot.slot clock
      → ((g : List ℕ) → spot.blocks ≡ droppable g → us ≡ raised g q.totals)
      → (record { refusal = 0; after = entered_with q ls cs us } ≡ enter_answer s q f clock)
      × ((t ≡ enter_store s q f) × (waiting t (entered_with q ls cs us) ≡ entered 0 (waiting s q) f clock))
  unfolding enter_answer enter_queue with_frame
  entry_done z ls cs us el ec raise =
      let e : 0 ≡ enter_refusal s q f = sym z ∙ number ∙ by_numbers s q f m.lengths_32 m.clocks_32 in
      let y = slotted z in
      let at : ℕ → List ℕ → Queue = λ k ts. entered_with q (set q.lengths k (length f)) (set q.clocks k clock) ts in
      outcome (record { refusal = 0; after = entered_with q ls cs us })
      (ap₂ (λ (r : ℕ) (p : Queue). record { refusal = r; after = p }) e
      (ap₂ (λ (l c : List ℕ). entered_with q l c us) el ec ∙ ap₂ at y.after_last (raise f y.counted) ∙ sym (if_taken_lem (enter_refusal s q f) (with_frame q f clock) q (sym e))))

-- the answer that a step, the slots and the totals make
abbrev pub taken_with : Step → List ℕ → List ℕ → List ℕ → Taken
taken_with x ls cs us = record { refusal = x.refusal; length = x.length; after = queue_with x.head x.first x.count ls cs us }

module _ (s : List ℕ) (q : Queue) (ll : length q.lengths ≡ 32) (lc : length q.clocks ≡ 32) (lt : length q.totals ≡ 3) (to level addr : ℕ) (out : List ℕ) where
  -- an answer made of the step leaves waiting what is right
  taking : (x : Step) (us : List ℕ) → x ≡ step_of s q to level addr out → ((f : List ℕ) → x.blocks ≡ droppable f → us ≡ lowered f q.totals)
      → (taken_with x q.lengths q.clocks us ≡ take_answer s q to level addr out)
      × (waiting s (taken_with x q.lengths q.clocks us).after ≡ left x.refusal (waiting s q))
  unfolding step_of take_answer
  taking x us e lower =
      let slots = slots_stay s q ll lc to level addr out in
      let fallen : us ≡ (take_queue s q to level addr out).totals = totals_fall s q ll lc to level addr out lt us (λ f b. lower f (ap (λ (y : Step). y.blocks) e ∙ b)) in
      let made : taken_with x q.lengths q.clocks us ≡ take_answer s q to level addr out =
      ap (λ (y : Step). taken_with y q.lengths q.clocks us) e
      ∙ ap₂ (λ (ls cs : List ℕ). taken_with (step_of s q to level addr out) ls cs us) (sym slots.0) (sym slots.1)
      ∙ ap (taken_with (step_of s q to level addr out) (take_queue s q to level addr out).lengths (take_queue s q to level addr out).clocks) fallen in
      (made, ap (λ (a : Taken). waiting s a.after) made ∙ take_waits s q ll lc to level addr out ∙ ap (λ (y : Step). left y.refusal (waiting s q)) (sym e))

-- what taking has made
module _ (s : List ℕ) (q : Queue) (to level addr : ℕ) (out : List ℕ) (w : Numbers) (e : numbered w ≡ unclocked q) (lc : length q.clocks ≡ 32) (x : Step)
    (ex : x ≡ step_of s (clocked w q.clocks) to level addr out) where
  step_is : x ≡ step_of s q to level addr out
  step_is = ex ∙ ap (λ (p : Queue). step_of s p to level addr out) (whole q w e)

  pub taken_blocks : x.blocks < 4
  taken_blocks = rw step_is (blocks_few s q (lengths_are_32 q w e) lc to level addr out)

  pub taken_by : (after : List ℕ) → after ≡ take_buffer s (clocked w q.clocks) to level addr out
      → (us : List ℕ) → ((f : List ℕ) → x.blocks ≡ droppable f → us ≡ lowered f q.totals)
      → (taken_with x q.lengths q.clocks us ≡ take_answer s q to level addr out)
      × ((after ≡ take_buffer s q to level addr out) × (waiting s (taken_with x q.lengths q.clocks us).after ≡ left x.refusal (waiting s q)))
  taken_by after eb us lower =
      let t = taking s q (lengths_are_32 q w e) lc (totals_are_3 q w e) to level addr out x us step_is lower in
      (t.0, (eb ∙ ap (λ (p : Queue). take_buffer s p to level addr out) (whole q w e), t.1))

-- and what a take that is refused has: the record stays
module _ (s : List ℕ) (q : Queue) (to level addr : ℕ) (out : List ℕ) (w : Numbers) (e : numbered w ≡ unclocked q) (lc : length q.clocks ≡ 32) (r : ℕ)
    (ex : stayed r 0 (clocked w q.clocks) ≡ step_of s (clocked w q.clocks) to level addr out) (after : List ℕ) (eb : after ≡ take_buffer s (clocked w q.clocks) to level addr out) where
  pub taken_none : (record { refusal = r; length = 0; after = q } ≡ take_answer s q to level addr out)
      × ((after ≡ take_buffer s q to level addr out) × (waiting s q ≡ left r (waiting s q)))
  taken_none =
      let lt : length q.totals ≡ 3 = totals_are_3 q w e in
      let t = taken_by s q to level addr out w e lc _ ex after eb q.totals (λ f b. sym (lowered_none f q.totals lt (sym b))) in
      let same : queue_with w.outline.head w.outline.first w.outline.count q.lengths q.clocks q.totals ≡ q = ap (λ (p : Queue). queue_with p.head p.first p.count q.lengths q.clocks q.totals) e in
      (ap (λ (p : Queue). record { refusal = r; length = 0; after = p }) (sym same) ∙ t.0, (t.1.0, ap (waiting s) (sym same) ∙ t.1.1))
