-- An arrival is the decision on the frame's fields: the laws of the decision, over the octets.
use Prim.Native.Nat.{ℕ, suc, ◌+◌, ◌≤◌}
use mathlib.Core.Path.{◌≡◌, refl, sym, ap, ◌∙◌}
use mathlib.Core.Bool.{Bool, true, false, cond, ◌||◌}
use lib.Dec.{ltb, eqb}
use mathlib.Core.List.{List}
use mathlib.Core.Logic.{◌⊎◌, ⊎_elim}
use native.Mathlib.Omega.{arith}
use borrow.Author.Tests.{ne_eqb}
use Rattle.frame.specs.Fields.{stamp, more_bit, sequence, noise}
use Rattle.refusals.specs.Refusals.{◌or_else◌, refuse, if_taken}
use Rattle.refusals.proofs.RefusalLaws.{or_else_take, or_else_assoc}
use Rattle.frame.specs.Orders.{voice_refusal}
use Rattle.playout.specs.declared.Endpoint.{Endpoint}
use Rattle.playout.specs.Counts.{stopped, late_after, missing_between}
use Rattle.playout.specs.Play.{Decided, clock_limit, record_bad, refusal14, refusal18, due_at, play_refusal, rseq_after, after_scheduled, still_stores, after_refused}
use Rattle.endpoint.specs.Read.{heard_of, read_answer}
use Rattle.endpoint.specs.Arrival.{frame_decision, arrival_by, arrival_of}
use Rattle.endpoint.specs.Outcome.{Outcome, outcome_of}
use Rattle.endpoint.specs.Calls.{is_received}
use Rattle.playout.proofs.PlayLaws.{by_decision, first_stands, decided_with, decided_number, decided_scheduled, decided_ranged, decided_near, decided_ahead, decided_apart, decided_left, decided_readable, still_stores_lem, stores_nothing, refused_stores, refused_keeps}
use Rattle.endpoint.proofs.ReadLaws.{read_is}

-- neither the number of the record nor that of the clock stores anything
pub early_stores_nothing : (e : Endpoint) (clock : ℕ) → still_stores (refusal14 e or_else refusal18 e clock) ≡ false
early_stores_nothing e clock = go (record_bad e) (ltb clock e.lastclock || ltb clock_limit clock) where
  go : (s t : Bool) → still_stores (refuse s 14 or_else refuse t 18) ≡ false
  go true t = refl
  go false true = refl
  go false false = refl

module _ (e : Endpoint) (f : List ℕ) (clock : ℕ) where
  pub arrival_readable : (frame_decision e f clock).refusal ≡ 0 → voice_refusal f ≡ 0
  unfolding frame_decision
  arrival_readable = decided_readable e clock (voice_refusal f) (stamp f) (sequence f) (more_bit f) (noise f)

  -- refused by a number that stores nothing, before the turn of the frame is judged
  pub decided_unstored : (first : ℕ) → first ≡ refusal14 e or_else refusal18 e clock or_else voice_refusal f → (first ≡ 0 → ⊥) → still_stores first ≡ false
      → ◌≡◌ {A = Decided} (record { refusal = first; due = 0; after = e }) (frame_decision e f clock)
  unfolding frame_decision
  decided_unstored first p h none =
      decided_with e clock (voice_refusal f) (stamp f) (sequence f) (more_bit f) (noise f) first (record { refusal = first; due = 0; after = e })
      (first_stands e clock (voice_refusal f) (stamp f) (sequence f) first p h) h
      (sym (refused_keeps e first (more_bit f) (noise f) none))

  -- as by the record or the clock
  pub decided_early : (first : ℕ) → first ≡ refusal14 e or_else refusal18 e clock → (first ≡ 0 → ⊥)
      → ◌≡◌ {A = Decided} (record { refusal = first; due = 0; after = e }) (frame_decision e f clock)
  decided_early first p h =
      decided_unstored first
      (or_else_take (refusal14 e or_else refusal18 e clock) (voice_refusal f) first p h ∙ sym (or_else_assoc (refusal14 e) (refusal18 e clock) (voice_refusal f))) h
      (ap still_stores p ∙ early_stores_nothing e clock)

  -- where the outcome is 0, the frame can be read
  pub outcome_readable : (o : Outcome) → o ≡ outcome_of (arrival_of e f clock) → o.refusal ≡ 0 → voice_refusal f ≡ 0
  unfolding arrival_of arrival_by
  outcome_readable o p z = arrival_readable (sym (ap (λ (x : Outcome). x.refusal) p) ∙ z)

  pub arrival_ranged : refusal14 e ≡ 0 → refusal14 (arrival_of e f clock).after ≡ 0
  unfolding arrival_of arrival_by frame_decision
  arrival_ranged h = decided_ranged e clock (voice_refusal f) (stamp f) (sequence f) (more_bit f) (noise f) h (omega arith) (omega arith)

  -- due is at most clock + 439
  pub arrival_near : (arrival_of e f clock).answer.due ≤ clock + 439
  unfolding arrival_of arrival_by frame_decision
  arrival_near = decided_near e clock (voice_refusal f) (stamp f) (sequence f) (more_bit f) (noise f)

  -- nor is a frame due in the past
  pub arrival_ahead : (arrival_of e f clock).answer.refusal ≡ 0 → clock ≤ (arrival_of e f clock).answer.due
  unfolding arrival_of arrival_by frame_decision
  arrival_ahead = decided_ahead e clock (voice_refusal f) (stamp f) (sequence f) (more_bit f) (noise f)

  pub arrival_apart : (arrival_of e f clock).answer.refusal ≡ 0
      → (e.end ≤ (arrival_of e f clock).answer.due) × ((arrival_of e f clock).after.end ≡ (arrival_of e f clock).answer.due + 16)
  unfolding arrival_of arrival_by frame_decision
  arrival_apart = decided_apart e clock (voice_refusal f) (stamp f) (sequence f) (more_bit f) (noise f)

  pub arrival_left : ((arrival_of e f clock).answer.refusal ≡ 0 → ⊥)
      → (arrival_of e f clock).after ≡ after_refused e (arrival_of e f clock).answer.refusal (more_bit f) (noise f)
  unfolding arrival_of arrival_by frame_decision
  arrival_left = decided_left e clock (voice_refusal f) (stamp f) (sequence f) (more_bit f) (noise f)

  -- a call refused with 17 or 20 leaves the frame's own more bit and noise, one late frame more for 17, and all else as it came
  pub arrival_stored : ((arrival_of e f clock).answer.refusal ≡ 17) ⊎ ((arrival_of e f clock).answer.refusal ≡ 20)
      → (arrival_of e f clock).after
      ≡ record {
        buildout = e.buildout;
        rseq = e.rseq;
        lastclock = e.lastclock;
        end = e.end;
        mlast = more_bit f;
        lastnoise = noise f;
        scheduled = e.scheduled;
        late = late_after (arrival_of e f clock).answer.refusal e.late;
        missing = e.missing;
      }
  arrival_stored h =
      arrival_left (⊎_elim (λ p z. omega arith) (λ p z. omega arith) h)
      ∙ ap (λ (d : Decided). d.after) (refused_stores e (arrival_of e f clock).answer.refusal (more_bit f) (noise f) (still_stores_lem (arrival_of e f clock).answer.refusal h))

  -- every other refusal leaves the whole record
  pub arrival_kept : ((arrival_of e f clock).answer.refusal ≡ 0 → ⊥) → ((arrival_of e f clock).answer.refusal ≡ 17 → ⊥) → ((arrival_of e f clock).answer.refusal ≡ 20 → ⊥)
      → (arrival_of e f clock).after ≡ e
  arrival_kept h p q =
      arrival_left h
      ∙ ap (λ (d : Decided). d.after) (refused_keeps e (arrival_of e f clock).answer.refusal (more_bit f) (noise f) (stores_nothing (arrival_of e f clock).answer.refusal p q))

  -- M_LAST and the last noise are set by a packet that counts as received, and by no other
  pub arrival_last : ((arrival_of e f clock).after.mlast ≡ cond (is_received (arrival_of e f clock).answer.refusal) (more_bit f) e.mlast)
      × ((arrival_of e f clock).after.lastnoise ≡ cond (is_received (arrival_of e f clock).answer.refusal) (noise f) e.lastnoise)
  unfolding arrival_of arrival_by frame_decision
  arrival_last =
      by_decision e clock (voice_refusal f) (stamp f) (sequence f) (more_bit f) (noise f)
      (λ d. (d.after.mlast ≡ cond (is_received d.refusal) (more_bit f) e.mlast) × (d.after.lastnoise ≡ cond (is_received d.refusal) (noise f) e.lastnoise))
      (λ z. (refl, refl))
      (λ k z. let h = ne_eqb (suc k) 0 (λ w. omega arith) in (rw h, rw h))

  -- what is counted goes by the call's number: 0 is scheduled, with the packets missing before it, and 17 is late
  pub arrival_counts : ((arrival_of e f clock).after.scheduled ≡ cond (eqb (arrival_of e f clock).answer.refusal 0) (stopped (e.scheduled + 1)) e.scheduled)
      × ((arrival_of e f clock).after.late ≡ late_after (arrival_of e f clock).answer.refusal e.late)
      × ((arrival_of e f clock).after.missing ≡ if_taken (arrival_of e f clock).answer.refusal (stopped (e.missing + missing_between e.rseq (sequence f))) e.missing)
  unfolding arrival_of arrival_by frame_decision
  arrival_counts =
      by_decision e clock (voice_refusal f) (stamp f) (sequence f) (more_bit f) (noise f)
      (λ d.
      (d.after.scheduled ≡ cond (eqb d.refusal 0) (stopped (e.scheduled + 1)) e.scheduled)
      × (d.after.late ≡ late_after d.refusal e.late)
      × (d.after.missing ≡ if_taken d.refusal (stopped (e.missing + missing_between e.rseq (sequence f))) e.missing))
      (λ z. (refl, refl, refl))
      (λ k z. let h = ne_eqb (suc k) 0 (λ w. omega arith) in (rw h, refl, refl))

  -- and so does RSEQ
  pub arrival_rseq : (arrival_of e f clock).after.rseq ≡ if_taken (arrival_of e f clock).answer.refusal (rseq_after (sequence f) (more_bit f)) e.rseq
  unfolding arrival_of arrival_by frame_decision
  arrival_rseq =
      by_decision e clock (voice_refusal f) (stamp f) (sequence f) (more_bit f) (noise f)
      (λ d. d.after.rseq ≡ if_taken d.refusal (rseq_after (sequence f) (more_bit f)) e.rseq)
      (λ z. refl)
      (λ k z. refl)

  -- the number of the order, and where there is none the due time and the record after
  pub arrival_number : (arrival_of e f clock).answer.refusal ≡ play_refusal e clock (voice_refusal f) (stamp f) (sequence f)
  unfolding arrival_of arrival_by frame_decision
  arrival_number = decided_number e clock (voice_refusal f) (stamp f) (sequence f) (more_bit f) (noise f)

  pub arrival_scheduled : play_refusal e clock (voice_refusal f) (stamp f) (sequence f) ≡ 0
      → ((arrival_of e f clock).answer.due ≡ due_at e clock (stamp f) (sequence f))
      × ((arrival_of e f clock).after ≡ after_scheduled e clock (sequence f) (more_bit f) (noise f) (due_at e clock (stamp f) (sequence f)))
  unfolding arrival_of arrival_by frame_decision
  arrival_scheduled z =
      let d = decided_scheduled e clock (voice_refusal f) (stamp f) (sequence f) (more_bit f) (noise f) z in
      (ap (λ x. x.due) d, ap (λ x. x.after) d)

  -- S, the number dropped, the width and the samples of a scheduled frame are those of the reader
  pub arrival_reads : (arrival_of e f clock).answer.refusal ≡ 0
      → ((arrival_of e f clock).answer.s ≡ (read_answer f).s)
      × ((arrival_of e f clock).answer.dropped ≡ (read_answer f).dropped)
      × ((arrival_of e f clock).answer.width ≡ (read_answer f).width)
      × ((arrival_of e f clock).answer.samples ≡ (read_answer f).samples)
  unfolding arrival_of arrival_by
  arrival_reads z =
      let n : (frame_decision e f clock).refusal ≡ voice_refusal f = z ∙ sym (arrival_readable z) in
      let r : heard_of (frame_decision e f clock).refusal f ≡ read_answer f = ap (λ k. heard_of k f) n ∙ sym (read_is f) in
      (ap (λ h. h.s) r, ap (λ h. h.dropped) r, ap (λ h. h.width) r, ap (λ h. h.samples) r)
