-- What an operator lives by, over any sequence of events upon one watch.
use Prim.Native.Nat.{ℕ, ◌+◌, ◌≤◌, ◌<◌}
use mathlib.Core.Path.{◌≡◌, refl, sym, ap, subst, ◌∙◌}
use mathlib.Core.Bool.{Bool, true, false, true≢false, ◌||◌, ◌&&◌}
use mathlib.Core.List.{List, [], ◌∷◌}
use native.Mathlib.Omega.{arith}
use lib.Dec.{eqb}
use borrow.Author.Tests.{eqb-true, not-false}
use Rattle.octets.proofs.BoolLaws.{and_true}
use Rattle.refusals.specs.Refusals.{◌or_else◌, if_taken}
use Rattle.refusals.proofs.RefusalLaws.{refuse_zero}
use Rattle.watch.specs.declared.Terminating.TheVariants.{LAlarm as L-ALARM}
use Rattle.watch.specs.declared.Sends.{Sends}
use Rattle.watch.specs.declared.Sends.TheVariants.{Nothing, Transition, Refresh}
use Rattle.watch.specs.declared.Conditioning.TheVariants.{Unchanged}
use Rattle.watch.specs.declared.Watch.{Watch}
use Rattle.watch.specs.declared.Event.{Event}
use Rattle.watch.specs.Table.{conditioned, change}
use Rattle.watch.specs.Watch.{Watched, refresh_offered, states_offered, keep_alive_offered, refusal18, brought12, is_frame, taken_after, is_sent, sent_after, event_row, start_refusal, fresh_watch, answered, event_answer}
use Rattle.watch.specs.Events.{Told, answer_to, Runs, watch_after, answers, last_frame, fits, on_after, InTurn, sent_at, last_sent, Silent, EveryMs, SentWithin}
use Rattle.watch.proofs.TableLaws.{change_same}
use Rattle.watch.proofs.EventLaws.{by_answer, answer_taken, answer_number, left_change, ran_out, due_sent, none_due, Sound, accepted, sound_order, start_sound, sound_after}

-- the outcomes of any sequence of calls are the fold's
pub runs_fold : (w : Watch) (xs : List Told) (rs : List Watched) → Runs w xs rs → rs ≡ answers w xs
unfolding Runs answers
runs_fold w [] [] h = refl
runs_fold w [] (r ∷ rs) h = absurd h
runs_fold w (x ∷ xs) [] h = absurd h
runs_fold w (x ∷ xs) (r ∷ rs) h =
    ap (λ (rest : List Watched). r ∷ rest) (runs_fold r.after xs rs h.1)
    ∙ ap (λ (a : Watched). a ∷ answers a.after xs) h.0

-- the provision never changes
pub same_states : (w : Watch) (x : Told) → (answer_to w x).after.states ≡ w.states
unfolding answered
same_states w x = by_answer w x.clock x.event (λ a. a.after.states ≡ w.states) (λ z h. refl) (λ z h. refl) (λ n z. refl)

same_refresh : (w : Watch) (x : Told) → (answer_to w x).after.refresh ≡ w.refresh
unfolding answered
same_refresh w x = by_answer w x.clock x.event (λ a. a.after.refresh ≡ w.refresh) (λ z h. refl) (λ z h. refl) (λ n z. refl)

kept_alive : (w : Watch) (x : Told) → (answer_to w x).after.keepalive ≡ w.keepalive
unfolding answered
kept_alive w x = by_answer w x.clock x.event (λ a. a.after.keepalive ≡ w.keepalive) (λ z h. refl) (λ z h. refl) (λ n z. refl)

-- a watch that began with offered parameters is refused for 18 and for what an event brings alone
pub events_sound : (w : Watch) (xs : List Told) → Sound w → Sound (watch_after w xs)
unfolding watch_after
events_sound w [] k = k
events_sound w (x ∷ xs) k = events_sound (answer_to w x).after xs (sound_after w x.clock x.event k)

pub own_record : (states refresh keepalive from : ℕ) (xs : List Told) (clock : ℕ) (e : Event) → start_refusal states refresh keepalive from ≡ 0
    → (w : Watch) → w ≡ watch_after (fresh_watch states refresh keepalive from) xs
    → (event_answer w clock e).refusal ≡ refusal18 w.lastclock clock or_else brought12 e
own_record states refresh keepalive from xs clock e z w is =
    answer_number w clock e
    ∙ sound_order w clock e (subst Sound (sym is) (events_sound (fresh_watch states refresh keepalive from) xs (start_sound states refresh keepalive from z)))

-- conditioning follows the state
change_fits : (a b : Bool) → fits a (change a b) ≡ true
change_fits true true = refl
change_fits true false = refl
change_fits false true = refl
change_fits false false = refl

change_on : (a b : Bool) → on_after a (change a b) ≡ b
change_on true true = refl
change_on true false = refl
change_on false true = refl
change_on false false = refl

answer_change : (w : Watch) (x : Told) → (answer_to w x).conditioning ≡ change (conditioned w.terminating) (conditioned (answer_to w x).after.terminating)
unfolding answered
answer_change w x =
    by_answer w x.clock x.event
    (λ a. a.conditioning ≡ change (conditioned w.terminating) (conditioned a.after.terminating))
    (λ z h. left_change w x.clock x.event)
    (λ z h. sym (change_same (conditioned w.terminating)))
    (λ n z. sym (change_same (conditioned w.terminating)))

-- on exactly in L_ALARM and R_ALARM, begun and ended in turn, never twice
pub conditioned_in_turn : (w : Watch) (xs : List Told) → InTurn (conditioned w.terminating) (answers w xs) (conditioned (watch_after w xs).terminating)
unfolding watch_after answers InTurn
conditioned_in_turn w [] = refl
conditioned_in_turn w (x ∷ xs) =
    let was = conditioned w.terminating in
    let is = conditioned (answer_to w x).after.terminating in (
      ap (fits was) (answer_change w x) ∙ change_fits was is,
      subst (λ (on : Bool). InTurn on (answers (answer_to w x).after xs) (conditioned (watch_after (answer_to w x).after xs).terminating))
          (sym (ap (on_after was) (answer_change w x) ∙ change_on was is))
          (conditioned_in_turn (answer_to w x).after xs),
    )

-- the clock kept is that of the last frame taken
taken_kept : (w : Watch) (x : Told) → (w.states ≡ 0 → ⊥)
    → (answer_to w x).after.lasttaken ≡ if_taken (answer_to w x).refusal (taken_after x.event x.clock w.lasttaken) w.lasttaken
unfolding answered
taken_kept w x k =
    by_answer w x.clock x.event
    (λ a. a.after.lasttaken ≡ if_taken a.refusal (taken_after x.event x.clock w.lasttaken) w.lasttaken)
    (λ z h. refl)
    (λ z h. absurd (k h))
    (λ n z. refl)

pub last_frame_lem : (w : Watch) (xs : List Told) → (w.states ≡ 0 → ⊥) → (watch_after w xs).lasttaken ≡ last_frame w.lasttaken w xs
unfolding watch_after last_frame
last_frame_lem w [] k = refl
last_frame_lem w (x ∷ xs) k =
    last_frame_lem (answer_to w x).after xs (λ z. k (sym (same_states w x) ∙ z))
    ∙ ap (λ (from : ℕ). last_frame from (answer_to w x).after xs) (taken_kept w x k)

same_provision : (w : Watch) (xs : List Told) → (watch_after w xs).states ≡ w.states
unfolding watch_after
same_provision w [] = refl
same_provision w (x ∷ xs) = same_provision (answer_to w x).after xs ∙ same_states w x

same_keep_alive : (w : Watch) (xs : List Told) → (watch_after w xs).keepalive ≡ w.keepalive
unfolding watch_after
same_keep_alive w [] = refl
same_keep_alive w (x ∷ xs) = same_keep_alive (answer_to w x).after xs ∙ kept_alive w x

same_often : (w : Watch) (xs : List Told) → (watch_after w xs).refresh ≡ w.refresh
unfolding watch_after
same_often w [] = refl
same_often w (x ∷ xs) = same_often (answer_to w x).after xs ∙ same_refresh w x

-- a dead trunk is taken out of service: whatever came before, an event without a frame TSIG_KA or more past the last frame taken, or the start, leaves L_ALARM, where conditioning is on
module _ (states refresh keepalive from : ℕ) (xs : List Told) (clock : ℕ) (e : Event) where
  abbrev before : Watch
  before = watch_after (fresh_watch states refresh keepalive from) xs

  pub dead_trunk : (states ≡ 0 → ⊥) → is_frame e ≡ false → (event_answer before clock e).refusal ≡ 0
      → last_frame from (fresh_watch states refresh keepalive from) xs + keepalive ≤ clock
      → ((event_answer before clock e).after.terminating ≡ L-ALARM)
      × (on_after (conditioned before.terminating) (event_answer before clock e).conditioning ≡ true)
  unfolding answered
  dead_trunk k f z h =
      let w = fresh_watch states refresh keepalive from in
      let t : before.lasttaken + before.keepalive ≤ clock = subst (λ (n : ℕ). n + before.keepalive ≤ clock) (sym (last_frame_lem w xs k)) (subst (λ (n : ℕ). last_frame from w xs + n ≤ clock) (sym (same_keep_alive w xs)) h) in
      let out = ap (λ (a : Watched). a.after.terminating) (answer_taken before clock e (sym (answer_number before clock e) ∙ z) (λ q. k (sym (same_provision w xs) ∙ q))) ∙ ran_out before clock e f t in
      let was = conditioned before.terminating in
      (out, ap (on_after was) (answer_change before (record { clock = clock; event = e })) ∙ change_on was (conditioned (event_answer before clock e).after.terminating) ∙ ap conditioned out)

-- a circuit with none never sends or conditions
pub none_silent : (w : Watch) (xs : List Told) → w.states ≡ 0 → Silent (answers w xs)
unfolding answers Silent answered
none_silent w [] k = tt
none_silent w (x ∷ xs) k =
    let one = by_answer w x.clock x.event (λ a. (a.sends ≡ Nothing) × (a.conditioning ≡ Unchanged)) (λ z h. absurd (h k)) (λ z h. (refl, refl)) (λ n z. (refl, refl)) in
    (one.0, one.1, none_silent (answer_to w x).after xs (same_states w x ∙ k))

-- the clock kept is that of the last frame sent
sent_kept : (w : Watch) (x : Told) → (answer_to w x).after.lastsent ≡ sent_at w.lastsent w x
unfolding answered
sent_kept w x =
    by_answer w x.clock x.event (λ a. a.after.lastsent ≡ sent_after a.sends x.clock w.lastsent)
    (λ z h. refl)
    (λ z h. refl)
    (λ n z. refl)

pub last_sent_lem : (w : Watch) (xs : List Told) → (watch_after w xs).lastsent ≡ last_sent w.lastsent w xs
unfolding watch_after last_sent
last_sent_lem w [] = refl
last_sent_lem w (x ∷ xs) =
    last_sent_lem (answer_to w x).after xs
    ∙ ap (λ (from : ℕ). last_sent from (answer_to w x).after xs) (sent_kept w x)

-- a refresh is due, and a frame is sent
pub due_answered : (w : Watch) (x : Told) → (w.states ≡ 0 → ⊥) → (answer_to w x).refusal ≡ 0 → w.lastsent + w.refresh ≤ x.clock → is_sent (answer_to w x).sends ≡ true
unfolding answered
due_answered w x k z h =
    ap (λ (a : Watched). is_sent a.sends) (answer_taken w x.clock x.event (sym (answer_number w x.clock x.event) ∙ z) k)
    ∙ due_sent w x.clock x.event h

-- whatever came before, an event TSIG_REF or more past the last frame sent, or the start, sends one, in NORM and in ALARM
pub refreshed : (states refresh keepalive from : ℕ) (xs : List Told) (x : Told) → (states ≡ 0 → ⊥)
    → (w : Watch) → w ≡ watch_after (fresh_watch states refresh keepalive from) xs
    → (answer_to w x).refusal ≡ 0
    → last_sent from (fresh_watch states refresh keepalive from) xs + refresh ≤ x.clock
    → is_sent (answer_to w x).sends ≡ true
refreshed states refresh keepalive from xs x k w is z h =
    let first = fresh_watch states refresh keepalive from in
    let kept : w.lastsent ≡ last_sent from first xs = ap (λ (v : Watch). v.lastsent) is ∙ last_sent_lem first xs in
    let often : w.refresh ≡ refresh = ap (λ (v : Watch). v.refresh) is ∙ same_often first xs in
    due_answered w x (λ q. k (sym (ap (λ (v : Watch). v.states) is ∙ same_provision first xs) ∙ q)) z
    (subst (λ (n : ℕ). n + w.refresh ≤ x.clock) (sym kept) (subst (λ (n : ℕ). last_sent from first xs + n ≤ x.clock) (sym often) h))

offered_positive : (ms : ℕ) → refresh_offered ms ≡ true → 0 < ms
offered_positive ms = go (eqb ms 1000) refl (eqb ms 5000) refl (eqb ms 10000) refl (eqb ms 20000) refl where
  go : (a : Bool) → eqb ms 1000 ≡ a → (b : Bool) → eqb ms 5000 ≡ b → (c : Bool) → eqb ms 10000 ≡ c → (d : Bool) → eqb ms 20000 ≡ d
      → (a || b || c || d) ≡ true → 0 < ms
  go true p b q c r d s h = omega (arith, eqb-true ms 1000 p)
  go false p true q c r d s h = omega (arith, eqb-true ms 5000 q)
  go false p false q true r d s h = omega (arith, eqb-true ms 10000 r)
  go false p false q false r true s h = omega (arith, eqb-true ms 20000 s)
  go false p false q false r false s h = absurd (true≢false (sym h))

sound_refresh : (w : Watch) → Sound w → 0 < w.refresh
sound_refresh w k =
    let all = and_true (states_offered w.states && refresh_offered w.refresh) (keep_alive_offered w.refresh w.keepalive) (not-false _ (refuse_zero _ 20 k.offered)) in
    offered_positive w.refresh (and_true (states_offered w.states) (refresh_offered w.refresh) all.0).1

next_near : (s : Sends) (clock last refresh : ℕ) → 0 < refresh → (is_sent s ≡ false → clock < last + refresh) → clock < sent_after s clock last + refresh
next_near Nothing clock last refresh pos near = near refl
next_near Transition clock last refresh pos near = omega arith
next_near Refresh clock last refresh pos near = omega arith

-- after each event less than TSIG_REF has passed since the last frame sent
answer_near : (w : Watch) (x : Told) → (w.states ≡ 0 → ⊥) → (answer_to w x).refusal ≡ 0
    → (answer_to w x).after.lastclock < (answer_to w x).after.lastsent + (answer_to w x).after.refresh
unfolding answered
answer_near w x k z =
    let taken = sym (answer_number w x.clock x.event) ∙ z in
    subst (λ (a : Watched). a.after.lastclock < a.after.lastsent + a.after.refresh) (sym (answer_taken w x.clock x.event taken k))
    (next_near (event_row w x.clock x.event).sends x.clock w.lastsent w.refresh
    (sound_refresh w (accepted w x.clock x.event taken).sound)
    (none_due w x.clock x.event))

-- with an event every millisecond no TSIG_REF passes without a frame
pub sent_within : (w : Watch) (xs : List Told) → (w.states ≡ 0 → ⊥) → w.lastclock < w.lastsent + w.refresh
    → EveryMs w xs → SentWithin w.refresh w.lastsent w xs
unfolding EveryMs SentWithin
sent_within w [] k near h = near
sent_within w (x ∷ xs) k near h =
    let next = (answer_to w x).after in (
      λ sent. omega (arith, near, h.1),
      subst (λ (from : ℕ). SentWithin w.refresh from next xs) (sent_kept w x)
          (subst (λ (ms : ℕ). SentWithin ms next.lastsent next xs) (same_refresh w x)
          (sent_within next xs (λ z. k (sym (same_states w x) ∙ z)) (answer_near w x k h.0) h.2)),
    )

pub started_within : (states refresh keepalive from : ℕ) (xs : List Told) → (states ≡ 0 → ⊥) → start_refusal states refresh keepalive from ≡ 0
    → EveryMs (fresh_watch states refresh keepalive from) xs → SentWithin refresh from (fresh_watch states refresh keepalive from) xs
started_within states refresh keepalive from xs k z h =
    sent_within (fresh_watch states refresh keepalive from) xs k
    (omega (arith, sound_refresh (fresh_watch states refresh keepalive from) (start_sound states refresh keepalive from z)))
    h
