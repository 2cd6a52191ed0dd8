-- What is known of a record in range, of a frame that is scheduled and of one that is refused, and that each keeps the record in range.
use Rattle.std.proofs.Common.{◌≡◌, ℕ, zero, suc, ◌+◌, ◌≤◌, max, Bool, true, false, cond, ◌&&◌, eqb, ltb, leb, ◌⊎◌, sym, refl, ap, ◌∙◌, subst, ⊎_elim, le_refl, arith, ltb-false, le-ltb, ne_eqb, leb-false}
use native.Mathlib.Nat.{le-max_left, le-max_right}
use Rattle.octets.specs.Sequence.{next_number}
use Rattle.octets.proofs.BoolLaws.{or_false}
use Rattle.refusals.specs.Refusals.{◌or_else◌}
use Rattle.refusals.proofs.RefusalLaws.{or_else_zero, or_else_assoc, or_else_take, refuse_zero, if_taken_lem, if_refused}
use Rattle.playout.specs.declared.Endpoint.{Endpoint}
use Rattle.playout.specs.Counts.{late_after}
use Rattle.playout.specs.Play.{Decided, fresh_record, clock_limit, record_bad, refusal14, refusal18, in_turn, hold, due_at, refusal17, refusal20, play_refusal, rseq_after, after_scheduled, scheduled_at, still_stores, after_refused, refused_with, decision}

-- what 14 does not refuse
pub record InRange (e : Endpoint) : Type 0 where
  pub rseq_low : e.rseq ≤ 15
  pub buildout_low : e.buildout ≤ 199
  pub mlast_low : e.mlast ≤ 1
  pub noise_low : e.lastnoise ≤ 15
  pub clock_low : e.lastclock ≤ clock_limit
  pub end_near : e.end ≤ e.lastclock + 455

pub in_range : (e : Endpoint) → refusal14 e ≡ 0 → InRange e
unfolding record_bad
in_range e h =
    let p5 = or_false _ _ (refuse_zero _ 13 h) in
    let p4 = or_false _ _ p5.0 in
    let p3 = or_false _ _ p4.0 in
    let p2 = or_false _ _ p3.0 in
    let p1 = or_false _ _ p2.0 in
    record {
      rseq_low = ltb-false _ _ p1.0;
      buildout_low = ltb-false _ _ p1.1;
      mlast_low = ltb-false _ _ p2.1;
      noise_low = ltb-false _ _ p3.1;
      clock_low = ltb-false _ _ p4.1;
      end_near = ltb-false _ _ p5.1;
    }

pub range_in : (e : Endpoint) → InRange e → refusal14 e ≡ 0
unfolding record_bad
range_in e p =
    simp (
      le-ltb _ _ p.rseq_low,
      le-ltb _ _ p.buildout_low,
      le-ltb _ _ p.mlast_low,
      le-ltb _ _ p.noise_low,
      le-ltb _ _ p.clock_low,
      le-ltb _ _ p.end_near,
    )

-- a fresh record is in range
pub fresh_ranged : (b : ℕ) → b ≤ 199 → refusal14 (fresh_record b) ≡ 0
fresh_ranged b h =
    range_in (fresh_record b)
    (record { rseq_low = omega arith; buildout_low = h; mlast_low = omega arith; noise_low = omega arith; clock_low = omega arith; end_near = omega arith })

next_low : (seq : ℕ) → next_number seq ≤ 15
next_low seq = go (leb 15 seq) refl where
  go : (t : Bool) → leb 15 seq ≡ t → cond t 1 (seq + 1) ≤ 15
  go true e = omega arith
  go false e = omega (arith, leb-false 15 seq e)

rseq_after_low : (seq more : ℕ) → rseq_after seq more ≤ 15
rseq_after_low seq more = go (eqb more 1) where
  go : (t : Bool) → cond t (next_number seq) 0 ≤ 15
  go true = next_low seq
  go false = omega arith

either_low : (t : Bool) {x y limit : ℕ} → x ≤ limit → y ≤ limit → cond t x y ≤ limit
either_low true p q = p
either_low false p q = q

pub still_stores_lem : (n : ℕ) → (n ≡ 17) ⊎ (n ≡ 20) → still_stores n ≡ true
still_stores_lem n = ⊎_elim (λ e. rw e) (λ e. rw e)

pub stores_nothing : (n : ℕ) → (n ≡ 17 → ⊥) → (n ≡ 20 → ⊥) → still_stores n ≡ false
stores_nothing n p q = simp (ne_eqb n 17 p, ne_eqb n 20 q)

-- what a refusal leaves of the record: by 17 and 20 the frame's more bit and noise are stored, by 17 it is counted, by any other number nothing is
module _ (e : Endpoint) (n more noise : ℕ) where
  -- the record with those two stored or not, and with this late count
  abbrev pub stored_with : Bool → ℕ → Endpoint
  stored_with stores late = record {
    buildout = e.buildout;
    rseq = e.rseq;
    lastclock = e.lastclock;
    end = e.end;
    mlast = cond stores more e.mlast;
    lastnoise = cond stores noise e.lastnoise;
    scheduled = e.scheduled;
    late = late;
    missing = e.missing;
  }

  pub refused_stores : still_stores n ≡ true → refused_with e n more noise ≡ record { refusal = n; due = 0; after = stored_with true (late_after n e.late) }
  refused_stores h = rw h

  pub refused_keeps : still_stores n ≡ false → refused_with e n more noise ≡ record { refusal = n; due = 0; after = e }
  refused_keeps h = let p = or_false (eqb n 17) (eqb n 20) h in rw (p.0, p.1)

-- what no number of the arrival's order refuses
pub record Scheduled (e : Endpoint) (clock given stamp seq : ℕ) : Type 0 where
  pub ranged : InRange e
  pub onward : e.lastclock ≤ clock
  pub early : clock ≤ clock_limit
  pub readable : given ≡ 0
  pub in_time : stamp ≤ e.buildout
  pub ahead : clock ≤ due_at e clock stamp seq
  pub near : due_at e clock stamp seq ≤ clock + 439

module _ (e : Endpoint) (clock : ℕ) where
  clocked : refusal18 e clock ≡ 0 → (e.lastclock ≤ clock) × (clock ≤ clock_limit)
  clocked h = let p = or_false _ _ (refuse_zero _ 17 h) in (ltb-false _ _ p.0, ltb-false _ _ p.1)

  due_ahead : (stamp seq : ℕ) → (in_turn e seq && ltb e.end clock) ≡ false → clock ≤ due_at e clock stamp seq
  unfolding due_at
  due_ahead stamp seq = go (in_turn e seq) where
    go : (t : Bool) → (t && ltb e.end clock) ≡ false → clock ≤ cond t e.end (max (clock + hold e.buildout stamp) e.end)
    go true h = ltb-false e.end clock h
    go false h = omega (arith, le-max_left (clock + hold e.buildout stamp) e.end)

  module _ (given stamp seq : ℕ) where
    pub scheduled : play_refusal e clock given stamp seq ≡ 0 → Scheduled e clock given stamp seq
    unfolding play_refusal
    scheduled h =
        let p = or_else_zero _ _ h in
        let q = or_else_zero _ _ p.1 in
        let r = or_else_zero _ _ q.1 in
        let s = or_else_zero _ _ r.1 in
        let c = clocked q.0 in
        let l = or_false (ltb e.buildout stamp) (in_turn e seq && ltb e.end clock) (refuse_zero _ 16 s.0) in
        record {
          ranged = in_range e p.0;
          onward = c.0;
          early = c.1;
          readable = r.0;
          in_time = ltb-false _ _ l.0;
          ahead = due_ahead stamp seq l.1;
          near = ltb-false _ _ (refuse_zero _ 19 s.1);
        }

    -- the numbers that are judged before the due time is known, and those after
    abbrev first : ℕ
    first = refusal14 e or_else refusal18 e clock or_else given

    abbrev last : ℕ
    last = refusal17 e clock stamp seq or_else refusal20 e clock stamp seq

    first_last : play_refusal e clock given stamp seq ≡ first or_else last
    unfolding play_refusal
    first_last =
        ap (λ (n : ℕ). refusal14 e or_else n) (or_else_assoc (refusal18 e clock) given last)
        ∙ or_else_assoc (refusal14 e) (refusal18 e clock or_else given) last

    pub first_stands : (n : ℕ) → n ≡ first → (n ≡ 0 → ⊥) → n ≡ play_refusal e clock given stamp seq
    first_stands n p h = or_else_take first last n p h ∙ sym first_last

    -- what `scheduled` asks of the record and the due time
    pub due_fits : (due : ℕ) → due ≡ due_at e clock stamp seq → play_refusal e clock given stamp seq ≡ 0 → (due ≤ clock_limit + 439) × (e.rseq ≤ 15)
    due_fits due p z = let s = scheduled z in (omega arith, s.ranged.rseq_low)

    -- on a record in range 14 does not apply, and the order goes on after it
    pub play_ranged : refusal14 e ≡ 0
        → play_refusal e clock given stamp seq ≡ refusal18 e clock or_else given or_else refusal17 e clock stamp seq or_else refusal20 e clock stamp seq
    unfolding play_refusal
    play_ranged z = rw z

    -- a scheduled frame never overlaps the one before it
    pub due_after_end : e.end ≤ due_at e clock stamp seq
    unfolding due_at
    due_after_end = go (in_turn e seq) where
      go : (t : Bool) → e.end ≤ cond t e.end (max (clock + hold e.buildout stamp) e.end)
      go true = le_refl e.end
      go false = le-max_right (clock + hold e.buildout stamp) e.end

    module _ (more noise : ℕ) where
      pub decided_scheduled : play_refusal e clock given stamp seq ≡ 0
          → decision e clock given stamp seq more noise
          ≡ scheduled_at e clock seq more noise (due_at e clock stamp seq)
      unfolding decision
      decided_scheduled z = if_taken_lem (play_refusal e clock given stamp seq) _ _ z

      pub decided_refused : (n : ℕ) → n ≡ play_refusal e clock given stamp seq → (n ≡ 0 → ⊥)
          → decision e clock given stamp seq more noise ≡ refused_with e n more noise
      unfolding decision
      decided_refused n p h =
          if_refused (play_refusal e clock given stamp seq) _ _ (λ z. h (p ∙ z))
          ∙ ap (λ (k : ℕ). refused_with e k more noise) (sym p)

      pub decided_with : (n : ℕ) (d : Decided) → n ≡ play_refusal e clock given stamp seq → (n ≡ 0 → ⊥)
          → d ≡ refused_with e n more noise → d ≡ decision e clock given stamp seq more noise
      decided_with n d p h q = q ∙ sym (decided_refused n p h)

      -- whatever holds of a scheduled frame, and of every refusal, holds of the decision
      pub by_decision : (P : Decided → Type 0)
          → (play_refusal e clock given stamp seq ≡ 0
          → P (scheduled_at e clock seq more noise (due_at e clock stamp seq)))
          → ((n : ℕ) → suc n ≡ play_refusal e clock given stamp seq → P (refused_with e (suc n) more noise))
          → P (decision e clock given stamp seq more noise)
      by_decision P taken refused = go (play_refusal e clock given stamp seq) refl where
        go : (n : ℕ) → play_refusal e clock given stamp seq ≡ n → P (decision e clock given stamp seq more noise)
        go zero z = subst P (sym (decided_scheduled z)) (taken z)
        go (suc n) z = subst P (sym (decided_refused (suc n) (sym z) (λ w. omega arith))) (refused n (sym z))

      -- the record that a call leaves is one that the next call accepts
      pub decided_ranged : refusal14 e ≡ 0 → more ≤ 1 → noise ≤ 15 → refusal14 (decision e clock given stamp seq more noise).after ≡ 0
      decided_ranged ranged m n =
          by_decision (λ d. refusal14 d.after ≡ 0)
          (λ z. let p = scheduled z in
          range_in (after_scheduled e clock seq more noise (due_at e clock stamp seq))
          (record {
            rseq_low = rseq_after_low seq more;
            buildout_low = p.ranged.buildout_low;
            mlast_low = m;
            noise_low = n;
            clock_low = p.early;
            end_near = omega arith;
          }))
          (λ k z. let p = in_range e ranged in
          range_in (after_refused e (suc k) more noise)
          (record {
            rseq_low = p.rseq_low;
            buildout_low = p.buildout_low;
            mlast_low = either_low (still_stores (suc k)) m p.mlast_low;
            noise_low = either_low (still_stores (suc k)) n p.noise_low;
            clock_low = p.clock_low;
            end_near = p.end_near;
          }))

      pub decided_number : (decision e clock given stamp seq more noise).refusal ≡ play_refusal e clock given stamp seq
      decided_number = by_decision (λ d. d.refusal ≡ play_refusal e clock given stamp seq) (λ z. sym z) (λ k z. z)

      pub decided_near : (decision e clock given stamp seq more noise).due ≤ clock + 439
      decided_near = by_decision (λ d. d.due ≤ clock + 439) (λ z. (scheduled z).near) (λ k z. omega arith)

      -- a frame is not due in the past
      pub decided_ahead : (decision e clock given stamp seq more noise).refusal ≡ 0 → clock ≤ (decision e clock given stamp seq more noise).due
      decided_ahead = by_decision (λ d. d.refusal ≡ 0 → clock ≤ d.due) (λ z r. (scheduled z).ahead) (λ k z r. absurd (omega arith))

      -- a scheduled frame never overlaps the one before it, and its packet lasts 16 ms
      pub decided_apart : (decision e clock given stamp seq more noise).refusal ≡ 0
          → (e.end ≤ (decision e clock given stamp seq more noise).due)
          × ((decision e clock given stamp seq more noise).after.end ≡ (decision e clock given stamp seq more noise).due + 16)
      decided_apart =
          by_decision (λ d. d.refusal ≡ 0 → (e.end ≤ d.due) × (d.after.end ≡ d.due + 16))
          (λ z r. (due_after_end, refl))
          (λ k z r. absurd (omega arith))

      -- what a refused call leaves of the record goes by its number
      pub decided_left : ((decision e clock given stamp seq more noise).refusal ≡ 0 → ⊥)
          → (decision e clock given stamp seq more noise).after ≡ after_refused e (decision e clock given stamp seq more noise).refusal more noise
      decided_left = by_decision (λ d. (d.refusal ≡ 0 → ⊥) → d.after ≡ after_refused e d.refusal more noise) (λ z r. absurd (r refl)) (λ k z r. refl)

      -- what is scheduled can be read
      pub decided_readable : (decision e clock given stamp seq more noise).refusal ≡ 0 → given ≡ 0
      decided_readable = by_decision (λ d. d.refusal ≡ 0 → given ≡ 0) (λ z r. (scheduled z).readable) (λ k z r. absurd (omega arith))
