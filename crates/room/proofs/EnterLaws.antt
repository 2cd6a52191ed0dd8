-- A frame that comes: by the record's numbers and by the plain list, and what waits once it is let in.
use Prim.Native.Nat.{ℕ, ◌+◌, ◌≤◌, ◌<◌}
use mathlib.Core.Path.{◌≡◌, refl, sym, subst, ap, ap₂, ◌∙◌}
use mathlib.Core.Bool.{◌||◌}
use mathlib.Core.List.{List, [], ◌∷◌, ◌++◌, append_assoc}
use native.Mathlib.Omega.{arith}
use lib.Dec.{ltb, leb}
use lib.ListN.{length, take, drop, length-set, take-append-drop}
use lib.Seq.{take_at, drop_at, length-take-le}
use borrow.Author.Tests.{ltb-false, leb-false}
use Rattle.octets.proofs.BoolLaws.{or_false}
use Rattle.refusals.specs.Refusals.{◌or_else◌, refuse, if_taken}
use Rattle.refusals.proofs.RefusalLaws.{or_else_zero, refuse_zero, if_taken_lem, if_refused, by_first, by_taken, if_same}
use Rattle.frame.specs.Orders.{taken_refusal}
use Rattle.frame.proofs.FrameLaws.{taken_short}
use Rattle.ring.specs.Ring.{place_after, turned, laid, sum}
use Rattle.ring.proofs.RingLaws.{turned_length, laid_after, laid_length}
use Rattle.ring.proofs.SumLaws.{sum_append}
use Rattle.ring.proofs.SlotLaws.{used_more}
use Rattle.totals.specs.Totals.{gives, total, raised}
use Rattle.totals.proofs.TotalsLaws.{gives_most, none_overfull}
use Rattle.room.specs.Plain.{Kept, kept, entered}
use Rattle.room.specs.Waiting.{cut, lengths_of, clocks_of, waiting, refusal14, Lets, Covered}
use Rattle.room.specs.Rules.{enter_refusal, with_frame, enter_queue, enter_store}
use Rattle.std.specs.Prelude.{Ok}
use Rattle.room.specs.Parts.{Judged, entry_by, store_by}
use Rattle.room.specs.declared.Queue.{Queue}
use Rattle.room.proofs.CutLaws.{cut_more, cut_snoc}
use Rattle.room.proofs.InsideLaws.{Inside, inside, let_by, as_many, waiting_count, waiting_together}
use Rattle.room.proofs.GivesLaws.{gives_all_most}

module _ (s : List ℕ) (q : Queue) (f : List ℕ) (ll : length q.lengths ≡ 32) (lc : length q.clocks ≡ 32) where
  pub by_numbers : entry_by (length s) q f ≡ enter_refusal s q f
  unfolding entry_by enter_refusal
  by_numbers =
      by_first (refusal14 (length s) q) _ _
      (λ z. let i = inside (length s) q z in
      ap₂ (λ (k u : ℕ). taken_refusal f or_else refuse (leb 32 k || ltb (length s) (u + length f)) 25) (sym (waiting_count s q ll lc i)) (sym (waiting_together s q ll lc i)))

-- a frame that is let in
pub record Roomy (n : ℕ) (q : Queue) (f : List ℕ) : Type 0 where
  pub inside : Inside n q
  pub short : length f ≤ 138
  pub few : q.count < 32
  pub room : sum (lengths_of q) + length f ≤ n

pub roomy : (n : ℕ) (q : Queue) (f : List ℕ) → entry_by n q f ≡ 0 → Roomy n q f
unfolding entry_by
roomy n q f h =
    let p = or_else_zero _ _ h in
    let r = or_else_zero _ _ p.1 in
    let t = or_false _ _ (refuse_zero _ 24 r.1) in
    record { inside = inside n q p.0; short = taken_short f r.0; few = leb-false _ _ t.0; room = ltb-false _ _ t.1 }

-- the store with the frame behind the last
abbrev pub store_with : List ℕ → Queue → List ℕ → List ℕ
store_with s q f = laid (place_after q.head (sum (lengths_of q)) (length s)) f s

module _ (s : List ℕ) (q : Queue) (f : List ℕ) (clock : ℕ) (ll : length q.lengths ≡ 32) (lc : length q.clocks ≡ 32) (y : Roomy (length s) q f) where
  pub same_size : length (store_with s q f) ≡ length s
  same_size = laid_length (place_after q.head (sum (lengths_of q)) (length s)) f s (omega (arith, y.room))

  -- what waited waits on, and the frame behind it
  pub waits_behind : waiting (store_with s q f) (with_frame q f clock) ≡ waiting s q ++ kept f clock ∷ []
  unfolding waiting with_frame
  waits_behind =
      let u : ℕ = sum (lengths_of q) in
      let R : List ℕ = turned q.head s in
      let T : List ℕ = turned q.head (store_with s q f) in
      let D : List ℕ = drop (u + length f) R in
      let lR : length (take u R) ≡ u = length-take-le u R (omega (arith, y.inside.all, turned_length q.head s)) in
      let eT : T ≡ take u R ++ (f ++ D) = laid_after q.head u f s y.inside.place y.room ∙ append_assoc (take u R) f D in
      let old : cut T (lengths_of q) (clocks_of q) ≡ cut R (lengths_of q) (clocks_of q) =
      ap (λ (x : List ℕ). cut x (lengths_of q) (clocks_of q)) eT
      ∙ cut_more (take u R) (f ++ D) (lengths_of q) (clocks_of q) (omega arith)
      ∙ sym (cut_more (take u R) (drop u R) (lengths_of q) (clocks_of q) (omega arith))
      ∙ ap (λ (x : List ℕ). cut x (lengths_of q) (clocks_of q)) (take-append-drop u R) in
      let new : take (length f) (drop u T) ≡ f =
      ap (λ (x : List ℕ). take (length f) (drop u x)) eT ∙ ap (take (length f)) (drop_at (take u R) (f ++ D) u lR) ∙ take_at f D (length f) refl in
      ap₂ (cut T) (used_more q.lengths q.first q.count ll y.inside.slot (length f) y.few) (used_more q.clocks q.first q.count lc y.inside.slot clock y.few)
      ∙ cut_snoc T (lengths_of q) (clocks_of q) (length f) clock (as_many s q ll lc y.inside)
      ∙ ap₂ (λ (w : List Kept) (x : List ℕ). w ++ kept x clock ∷ []) old new

  pub still_inside : Covered s q → Inside (length (store_with s q f)) (with_frame q f clock)
  unfolding with_frame sum raised
  still_inside covered =
      let e : sum (lengths_of (with_frame q f clock)) ≡ sum (lengths_of q) + length f =
      ap sum (used_more q.lengths q.first q.count ll y.inside.slot (length f) y.few) ∙ sum_append (lengths_of q) (length f ∷ []) ∙ omega arith in
      record {
        store = omega (arith, same_size, y.inside.store);
        few = omega (arith, y.few);
        slot = y.inside.slot;
        place = omega (arith, same_size, y.inside.place);
        all = omega (arith, same_size, y.room);
        totals =
            none_overfull (λ level. total q.totals level + gives level f)
            (λ level. omega (arith, covered level, gives_most level f, gives_all_most level (waiting s q), waiting_count s q ll lc y.inside, y.few));
      }

module _ (s : List ℕ) (q : Queue) (f : List ℕ) (ll : length q.lengths ≡ 32) (lc : length q.clocks ≡ 32) where
  let_in : enter_refusal s q f ≡ 0 → Roomy (length s) q f
  let_in z = roomy (length s) q f (by_numbers s q f ll lc ∙ z)

  -- the frame is laid where the record's numbers say
  pub store_is : store_by s q f ≡ enter_store s q f
  unfolding store_by enter_store
  store_is =
      ap (λ (r : ℕ). if_taken r (store_with s q f) s) (by_numbers s q f ll lc)
      ∙ if_same (enter_refusal s q f) _ _ s
      (λ z. ap (λ (u : ℕ). laid (place_after q.head u (length s)) f s) (sym (waiting_together s q ll lc (let_in z).inside)))

  stored : enter_refusal s q f ≡ 0 → enter_store s q f ≡ store_with s q f
  unfolding store_by
  stored z = sym store_is ∙ if_taken_lem (entry_by (length s) q f) (store_with s q f) s (by_numbers s q f ll lc ∙ z)

  unstored : (enter_refusal s q f ≡ 0 → ⊥) → enter_store s q f ≡ s
  unfolding enter_store
  unstored h = if_refused (enter_refusal s q f) _ s h

  pub store_size : length (enter_store s q f) ≡ length s
  store_size =
      by_taken (enter_refusal s q f) (λ z. ap length (stored z) ∙ same_size s q f 0 ll lc (let_in z)) (λ h. ap length (unstored h))

  module _ (clock : ℕ) where
    with_it : enter_refusal s q f ≡ 0 → enter_queue s q f clock ≡ with_frame q f clock
    unfolding enter_queue
    with_it z = if_taken_lem (enter_refusal s q f) (with_frame q f clock) q z

    without_it : (enter_refusal s q f ≡ 0 → ⊥) → enter_queue s q f clock ≡ q
    unfolding enter_queue
    without_it h = if_refused (enter_refusal s q f) (with_frame q f clock) q h

    pub enter_waits : waiting (enter_store s q f) (enter_queue s q f clock) ≡ entered (enter_refusal s q f) (waiting s q) f clock
    enter_waits =
        by_taken (enter_refusal s q f)
        (λ z. ap₂ waiting (stored z) (with_it z) ∙ waits_behind s q f clock ll lc (let_in z) ∙ sym (if_taken_lem (enter_refusal s q f) (waiting s q ++ kept f clock ∷ []) (waiting s q) z))
        (λ h. ap₂ waiting (unstored h) (without_it h) ∙ sym (if_refused (enter_refusal s q f) (waiting s q ++ kept f clock ∷ []) (waiting s q) h))

    -- what 14 lets by it lets by again, as long as no total is above the sum of what waits
    pub enter_lets : Lets (length s) q → Covered s q → Lets (length (enter_store s q f)) (enter_queue s q f clock)
    unfolding with_frame raised
    enter_lets l covered =
        by_taken (enter_refusal s q f)
        (λ z. subst (λ (p : Queue). Lets (length (enter_store s q f)) p) (sym (with_it z))
        (record {
          lengths_32 = length-set q.lengths (place_after q.first q.count 32) (length f) ∙ ll;
          clocks_32 = length-set q.clocks (place_after q.first q.count 32) clock ∙ lc;
          totals_3 = refl;
          inside = rw (stored z) (let_by (length (store_with s q f)) (with_frame q f clock) (still_inside s q f clock ll lc (let_in z) covered));
        }))
        (λ h. rw (unstored h, without_it h) l)

-- as the code has let it in
pub let_in_by : (n : ℕ) (q : Queue) (f : List ℕ) (u : ℕ) → Judged n q (Ok u) → 0 ≡ taken_refusal f → 0 ≡ refuse (leb 32 q.count || ltb n (u + length f)) 25 → Roomy n q f
let_in_by n q f u j t r =
    let p = or_false _ _ (refuse_zero _ 24 (sym r)) in
    let room : u + length f ≤ n = ltb-false _ _ p.1 in
    record { inside = inside n q (sym j.0); short = taken_short f (sym t); few = leb-false _ _ p.0; room = omega (arith, j.1, room) }
