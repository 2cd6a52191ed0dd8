-- What one event answers: taken, upon a circuit with none, or refused.
use Prim.Native.Nat.{ℕ, zero, suc, ◌+◌, ◌≤◌, ◌<◌}
use mathlib.Core.Path.{◌≡◌, refl, sym, ap, ◌∙◌}
use mathlib.Core.Bool.{Bool, true, false, true≢false, cond}
use native.Mathlib.Omega.{arith}
use lib.Dec.{ltb, leb, eqb}
use borrow.Author.Tests.{eqb-true, eqb-false, ltb-false, le-ltb, leb-false, le-leb}
use Rattle.std.proofs.lemmas.Bool.{cond_both}
use Rattle.octets.proofs.BoolLaws.{or_false}
use Rattle.refusals.specs.Refusals.{◌or_else◌, if_taken}
use Rattle.refusals.proofs.RefusalLaws.{or_else_zero, refuse_zero}
use Rattle.watch.specs.declared.Originating.{Originating}
use Rattle.watch.specs.declared.Originating.TheVariants.{Norm as NORMAL, Alarm as ALARM}
use Rattle.watch.specs.declared.Terminating.{Terminating}
use Rattle.watch.specs.declared.Terminating.TheVariants.{Norm as NORM, LAlarm as L-ALARM, RAlarm as R-ALARM}
use Rattle.watch.specs.declared.Coming.TheVariants.{NoChange, RunOut, FacilityAlarm, SameBits, ChangedBits}
use Rattle.watch.specs.declared.Sends.{Sends}
use Rattle.watch.specs.declared.Sends.TheVariants.{Nothing, Transition, Refresh}
use Rattle.watch.specs.declared.Row.{Row}
use Rattle.watch.specs.declared.Watch.{Watch}
use Rattle.watch.specs.declared.Event.{Event}
use Rattle.watch.specs.declared.Event.TheVariants.{Passing, Reading, Frame}
use Rattle.watch.specs.Table.{table, sends_both, conditioned, change}
use Rattle.watch.specs.Watch.{Watched, clock_limit, in_use, brought, is_frame, is_sent, sent_after, standing, judged, event_row, na_of, if_sent, bits_after, refusal21, refusal18, brought12, event_refusal, start_refusal, taken_after, fresh_watch, only, answered, event_answer}
use Rattle.watch.proofs.TableLaws.{row_left, run_out}
use Rattle.watch.proofs.WatchLaws.{due_after}

-- a reading leaves the terminating end's state, and so does time
reading_keeps : (o : Originating) (t : Terminating) (alarm same : Bool) → (table o t (cond alarm FacilityAlarm (cond same SameBits ChangedBits))).terminating ≡ t
reading_keeps o t true same = refl
reading_keeps o t false true = refl
reading_keeps o t false false = refl

brought_keeps : (w : Watch) (e : Event) → is_frame e ≡ false → (o : Originating) (t : Terminating) → (table o t (brought w e)).terminating ≡ t
brought_keeps w Passing f o t = refl
brought_keeps w (Reading bits alarm) f o t = reading_keeps o t alarm (eqb (in_use w.states bits) (in_use w.states w.bits))
brought_keeps w (Frame na) f o t = absurd (true≢false f)

due_is_sent : (w : Watch) (clock : ℕ) (s : Sends) → w.lastsent + w.refresh ≤ clock → is_sent (sends_both s (cond (due_after w clock s) Refresh Nothing)) ≡ true
due_is_sent w clock Nothing h = rw (le-leb (w.lastsent + w.refresh) clock h) refl
due_is_sent w clock Transition h = refl
due_is_sent w clock Refresh h = refl

sent_when : (b : Bool) → is_sent (cond b Refresh Nothing) ≡ b
sent_when true = refl
sent_when false = refl

unsent_not_due : (w : Watch) (clock : ℕ) (s : Sends) → is_sent (sends_both s (cond (due_after w clock s) Refresh Nothing)) ≡ false → clock < w.lastsent + w.refresh
unsent_not_due w clock Nothing h = leb-false (w.lastsent + w.refresh) clock (sym (sent_when (leb (w.lastsent + w.refresh) clock)) ∙ h)
unsent_not_due w clock Transition h = absurd (true≢false h)
unsent_not_due w clock Refresh h = absurd (true≢false h)

module _ (w : Watch) (clock : ℕ) (e : Event) where
  -- whatever holds of an event that is taken, of one upon a circuit with none, and of every refusal, holds of the answer
  pub by_answer : (P : Watched → Type 0)
      → (event_refusal w clock e ≡ 0 → (w.states ≡ 0 → ⊥) → P (answered w clock e (event_row w clock e)))
      → (event_refusal w clock e ≡ 0 → w.states ≡ 0 → P (answered w clock Passing (standing w)))
      → ((n : ℕ) → event_refusal w clock e ≡ suc n → P (only (suc n) w))
      → P (event_answer w clock e)
  unfolding event_answer
  by_answer P taken idle refused = go (event_refusal w clock e) refl (eqb w.states 0) refl where
    go : (n : ℕ) → event_refusal w clock e ≡ n → (b : Bool) → eqb w.states 0 ≡ b
        → P (if_taken n (cond b (answered w clock Passing (standing w)) (answered w clock e (event_row w clock e))) (only n w))
    go zero z true k = idle z (eqb-true _ _ k)
    go zero z false k = taken z (eqb-false _ _ k)
    go (suc n) z b k = refused n z

  pub answer_taken : event_refusal w clock e ≡ 0 → (w.states ≡ 0 → ⊥) → event_answer w clock e ≡ answered w clock e (event_row w clock e)
  answer_taken z k =
      by_answer (λ a. a ≡ answered w clock e (event_row w clock e)) (λ q h. refl) (λ q h. absurd (k h)) (λ n q. absurd (omega (arith, z, q)))

  -- the terminating end's state once run_out is judged
  abbrev alive : Terminating
  alive = (table w.originating w.terminating (cond (leb (w.lasttaken + w.keepalive) clock) RunOut NoChange)).terminating

  abbrev by_event : Row
  by_event = table w.originating alive (brought w e)

  -- the row that an event leaves
  pub event_left : event_row w clock e
      ≡ record {
        originating = by_event.originating;
        terminating = by_event.terminating;
        sends = sends_both by_event.sends (cond (due_after w clock by_event.sends) Refresh Nothing);
        conditioning = change (conditioned w.terminating) (conditioned by_event.terminating);
      }
  unfolding event_row judged
  event_left = row_left w.originating w.terminating (leb (w.lasttaken + w.keepalive) clock) (brought w e) (due_after w clock)

  -- conditioning changes as the terminating end's state does
  pub left_change : (event_row w clock e).conditioning ≡ change (conditioned w.terminating) (conditioned (event_row w clock e).terminating)
  left_change =
      ap (λ (r : Row). r.conditioning) event_left
      ∙ sym (ap (λ (r : Row). change (conditioned w.terminating) (conditioned r.terminating)) event_left)

  -- an event without a frame, TSIG_KA or more past the last frame taken
  pub ran_out : is_frame e ≡ false → w.lasttaken + w.keepalive ≤ clock → (event_row w clock e).terminating ≡ L-ALARM
  ran_out f h =
      ap (λ (r : Row). r.terminating) event_left
      ∙ brought_keeps w e f w.originating alive
      ∙ ap (λ (b : Bool). (table w.originating w.terminating (cond b RunOut NoChange)).terminating) (le-leb _ _ h)
      ∙ ap (λ (r : Row). r.terminating) (run_out w.originating w.terminating)

  sends_left : (event_row w clock e).sends ≡ sends_both by_event.sends (cond (due_after w clock by_event.sends) Refresh Nothing)
  sends_left = ap (λ (r : Row). r.sends) event_left

  -- an event TSIG_REF or more past the last frame sent sends one, in NORM and in ALARM
  pub due_sent : w.lastsent + w.refresh ≤ clock → is_sent (event_row w clock e).sends ≡ true
  due_sent h = ap is_sent sends_left ∙ due_is_sent w clock by_event.sends h

  -- and where none is sent, none was due
  pub none_due : is_sent (event_row w clock e).sends ≡ false → clock < w.lastsent + w.refresh
  none_due h = unsent_not_due w clock by_event.sends (sym (ap is_sent sends_left) ∙ h)

-- a watch that the next event finds nothing wrong with
pub record Sound (w : Watch) : Type 0 where
  pub offered : refusal21 w.states w.refresh w.keepalive ≡ 0
  pub kept_early : w.lastclock ≤ clock_limit
  pub sent_before : w.lastsent ≤ w.lastclock
  pub taken_before : w.lasttaken ≤ w.lastclock
  pub low : w.bits ≤ 15

-- what is known of an event that is not refused
pub record Accepted (w : Watch) (clock : ℕ) (e : Event) : Type 0 where
  pub sound : Sound w
  pub onward : w.lastclock ≤ clock
  pub early : clock ≤ clock_limit
  pub brings : brought12 e ≡ 0

pub accepted : (w : Watch) (clock : ℕ) (e : Event) → event_refusal w clock e ≡ 0 → Accepted w clock e
unfolding event_refusal
accepted w clock e z =
    let p21 = or_else_zero _ _ z in
    let p14 = or_else_zero _ _ p21.1 in
    let p18 = or_else_zero _ _ p14.1 in
    let p12 = or_else_zero _ _ p18.1 in
    let kept = or_false _ _ (refuse_zero _ 13 p14.0) in
    let clocks = or_false (ltb clock_limit w.lastclock) (ltb w.lastclock w.lastsent) kept.0 in
    let now = or_false _ _ (refuse_zero _ 17 p18.0) in
    record {
      sound = record {
        offered = p21.0;
        kept_early = ltb-false _ _ clocks.0;
        sent_before = ltb-false _ _ clocks.1;
        taken_before = ltb-false _ _ kept.1;
        low = ltb-false _ _ (or_false (ltb 15 w.bits) (ltb 1 0) (refuse_zero _ 11 p12.0)).0;
      };
      onward = ltb-false _ _ now.0;
      early = ltb-false _ _ now.1;
      brings = p12.1;
    }

-- so of the order 18 and 12 of what the event brings are left
pub sound_order : (w : Watch) (clock : ℕ) (e : Event) → Sound w → event_refusal w clock e ≡ refusal18 w.lastclock clock or_else brought12 e
unfolding event_refusal
sound_order w clock e k =
    simp (k.offered, le-ltb _ _ k.kept_early, le-ltb _ _ k.sent_before, le-ltb _ _ k.taken_before, le-ltb _ _ k.low)

-- a start that is not refused is sound
pub start_sound : (states refresh keepalive clock : ℕ) → start_refusal states refresh keepalive clock ≡ 0 → Sound (fresh_watch states refresh keepalive clock)
unfolding start_refusal
start_sound states refresh keepalive clock z =
    let p = or_else_zero _ _ z in
    let now = or_false (ltb clock 0) (ltb clock_limit clock) (refuse_zero _ 17 p.1) in
    record { offered = p.0; kept_early = ltb-false _ _ now.1; sent_before = omega arith; taken_before = omega arith; low = omega arith }

sent_le : (s : Sends) (clock last : ℕ) → last ≤ clock → sent_after s clock last ≤ clock
sent_le Nothing clock last h = h
sent_le Transition clock last h = omega arith
sent_le Refresh clock last h = omega arith

taken_le : (e : Event) (clock last : ℕ) → last ≤ clock → taken_after e clock last ≤ clock
taken_le Passing clock last h = h
taken_le (Reading bits alarm) clock last h = h
taken_le (Frame na) clock last h = omega arith

bits_low : (e : Event) (kept : ℕ) → kept ≤ 15 → brought12 e ≡ 0 → bits_after kept e ≤ 15
bits_low Passing kept h z = h
bits_low (Reading bits alarm) kept h z = cond_both alarm kept bits (λ x. x ≤ 15) (λ s. h) (λ s. ltb-false _ _ (or_false (ltb 15 bits) (ltb 1 0) (refuse_zero _ 11 z)).0)
bits_low (Frame na) kept h z = h

if_sent_le : (s : Sends) (x n : ℕ) → x ≤ n → if_sent s x ≤ n
if_sent_le Nothing x n h = omega arith
if_sent_le Transition x n h = h
if_sent_le Refresh x n h = h

na_le : (o : Originating) (t : Terminating) → na_of o t ≤ 1
na_le ALARM t = omega arith
na_le NORMAL NORM = omega arith
na_le NORMAL L-ALARM = omega arith
na_le NORMAL R-ALARM = omega arith

module _ (w : Watch) (clock : ℕ) (e : Event) where
  -- the watch that an event leaves is one that the next finds nothing wrong with
  pub sound_after : Sound w → Sound (event_answer w clock e).after
  unfolding answered
  sound_after k =
      by_answer w clock e (λ a. Sound a.after)
      (λ z h. let p = accepted w clock e z in
      record {
        offered = k.offered;
        kept_early = p.early;
        sent_before = sent_le (event_row w clock e).sends clock w.lastsent (omega (arith, k.sent_before, p.onward));
        taken_before = taken_le e clock w.lasttaken (omega (arith, k.taken_before, p.onward));
        low = bits_low e w.bits k.low p.brings;
      })
      (λ z h. let p = accepted w clock e z in
      record {
        offered = k.offered;
        kept_early = p.early;
        sent_before = omega (arith, k.sent_before, p.onward);
        taken_before = omega (arith, k.taken_before, p.onward);
        low = k.low;
      })
      (λ n z. k)

  -- what is to be sent is what the signalling writer takes, and so is the answer where nothing is
  pub sent_low : ((event_answer w clock e).bits ≤ 15) × ((event_answer w clock e).na ≤ 1)
  unfolding answered
  sent_low =
      by_answer w clock e (λ a. (a.bits ≤ 15) × (a.na ≤ 1))
      (λ z h. let p = accepted w clock e z in
      (if_sent_le (event_row w clock e).sends (bits_after w.bits e) 15 (bits_low e w.bits p.sound.low p.brings), if_sent_le (event_row w clock e).sends (na_of (event_row w clock e).originating (event_row w clock e).terminating) 1 (na_le (event_row w clock e).originating (event_row w clock e).terminating)))
      (λ z h. (omega arith, omega arith))
      (λ n z. (omega arith, omega arith))

  -- the number of the answer is the order's
  pub answer_number : (event_answer w clock e).refusal ≡ event_refusal w clock e
  unfolding answered
  answer_number = by_answer w clock e (λ a. a.refusal ≡ event_refusal w clock e) (λ z h. sym z) (λ z h. sym z) (λ n z. sym z)

  -- a refused event changes nothing
  pub answer_kept : ((event_answer w clock e).refusal ≡ 0 → ⊥) → event_answer w clock e ≡ only (event_answer w clock e).refusal w
  unfolding answered
  answer_kept =
      by_answer w clock e (λ a. (a.refusal ≡ 0 → ⊥) → a ≡ only a.refusal w) (λ z h r. absurd (r refl)) (λ z h r. absurd (r refl)) (λ n z r. refl)
