-- The arrival on nine numbers: by its outcome, and of numbers of which one fits no field.
use Prim.Native.Nat.{ℕ, ◌≤◌}
use mathlib.Core.Path.{◌≡◌, refl, sym, ap, subst, ◌∙◌}
use mathlib.Core.Bool.{Bool, true, false, ◌||◌}
use mathlib.Core.List.{List, [], ◌∷◌, ◌++◌}
use native.Mathlib.Omega.{arith}
use lib.Dec.{ltb}
use lib.ListN.{drop}
use borrow.Author.Tests.{ltb-false, le-ltb}
use Rattle.octets.proofs.BoolLaws.{or_false}
use Rattle.std.specs.Prelude.{Result, IsOk, Ok, Err}
use Rattle.refusals.specs.Refusals.{if_taken, refuse, refusal_of}
use Rattle.refusals.specs.declared.Refusal.{Refusal}
use Rattle.endpoint.specs.declared.Scheduled.{Scheduled}
use Rattle.endpoint.specs.declared.Judged.{Judged}
use Rattle.endpoint.specs.Arrival.{Moved, frame_decision, reset_of, arrival_by, arrival_of}
use Rattle.endpoint.specs.Outcome.{Outcome, outcome_paper, outcome_of}
use Rattle.playout.specs.Counts.{count_limit}
use Rattle.playout.specs.Play.{record_bad, refusal14, play_refusal, decision}
use Rattle.endpoint.specs.Read.{heard_of}
use Rattle.playout.specs.declared.Endpoint.{Endpoint}
use Rattle.playout.proofs.PlayLaws.{in_range}
use Rattle.endpoint.proofs.ReadLaws.{heard_behind}
use Rattle.card.specs.Card.{put}
use Rattle.card.proofs.CardLaws.{copied}
use Rattle.card_record.specs.Record.{arrival_numbers, record_numbers, refused_arrival, count_unfit, told_numbers, numbers_arrival}

-- ---- numbers that fit no field

module _ (e : Endpoint) where
  -- an octet, or a count
  abbrev pub unfit : Bool
  unfit =
      ltb 255 e.buildout || ltb 255 e.rseq || ltb 255 e.mlast || ltb 255 e.lastnoise
      || ltb count_limit e.scheduled || ltb count_limit e.late || ltb count_limit e.missing

  pub record Fits : Type 0 where
    pub buildout_fits : e.buildout ≤ 255
    pub rseq_fits : e.rseq ≤ 255
    pub mlast_fits : e.mlast ≤ 255
    pub noise_fits : e.lastnoise ≤ 255
    pub scheduled_fits : e.scheduled ≤ count_limit
    pub late_fits : e.late ≤ count_limit
    pub missing_fits : e.missing ≤ count_limit

  pub fitting : unfit ≡ false → Fits
  fitting h =
      let p6 = or_false _ _ h in
      let p5 = or_false _ _ p6.0 in
      let p4 = or_false _ _ p5.0 in
      let p3 = or_false _ _ p4.0 in
      let p2 = or_false _ _ p3.0 in
      let p1 = or_false _ _ p2.0 in
      record {
        buildout_fits = ltb-false _ _ p1.0;
        rseq_fits = ltb-false _ _ p1.1;
        mlast_fits = ltb-false _ _ p2.1;
        noise_fits = ltb-false _ _ p3.1;
        scheduled_fits = ltb-false _ _ p4.1;
        late_fits = ltb-false _ _ p5.1;
        missing_fits = ltb-false _ _ p6.1;
      }

  -- so where no count is unfit, a number is that 14 refuses anyway
  unfit_bad : count_unfit e ≡ false → unfit ≡ true → record_bad e ≡ true
  unfit_bad counts h = go (record_bad e) refl where
    go : (b : Bool) → record_bad e ≡ b → b ≡ true
    go true k = refl
    go false k =
        let z : refusal14 e ≡ 0 = rw k in
        let p = in_range e z in
        let s : Bool = ltb count_limit e.scheduled in
        let l : Bool = ltb count_limit e.late in
        let q = or_false (s || l) (ltb count_limit e.missing) counts in
        let o = or_false s l q.0 in
        sym (simp (le-ltb 255 e.buildout (omega (arith, p.buildout_low)), le-ltb 255 e.rseq (omega (arith, p.rseq_low)), le-ltb 255 e.mlast (omega (arith, p.mlast_low)), le-ltb 255 e.lastnoise (omega (arith, p.noise_low)), o.0, o.1, q.1)) ∙ h

  module _ (f : List ℕ) (clock : ℕ) where
    -- a record out of range is refused 14 whatever it holds, and handed back
    bad_is : record_bad e ≡ true → arrival_of e f clock ≡ record { answer = refused_arrival 14; after = e }
    unfolding arrival_of arrival_by frame_decision decision play_refusal reset_of heard_of
    bad_is h = rw h

    pub unfit_is : unfit ≡ true → numbers_arrival e f clock ≡ record { answer = refused_arrival 14; after = e }
    unfolding numbers_arrival
    unfit_is h = go (count_unfit e) refl where
      go : (b : Bool) → count_unfit e ≡ b
          → if_taken (refuse b 14) (arrival_of e f clock) (record { answer = refused_arrival 14; after = e }) ≡ record { answer = refused_arrival 14; after = e }
      go true k = refl
      go false k = bad_is (unfit_bad k h)

    -- where all fit, it is the arrival itself
    pub fitting_is : unfit ≡ false → numbers_arrival e f clock ≡ arrival_of e f clock
    unfolding numbers_arrival
    fitting_is h =
        let p = fitting h in
        simp (le-ltb count_limit e.scheduled p.scheduled_fits, le-ltb count_limit e.late p.late_fits, le-ltb count_limit e.missing p.missing_fits)

-- ---- what is heard, put before what stood behind

put_heard : (n : ℕ) (f slot x : List ℕ) → x ≡ (heard_of n f).samples ++ drop 128 slot → x ≡ put (heard_of n f).samples slot
put_heard n f slot x e = copied (heard_of n f).samples slot x (heard_behind n f slot x e)

pub put_none : (f slot x : List ℕ) → x ≡ (heard_of 14 f).samples ++ drop 128 slot → x ≡ put (refused_arrival 14).samples slot
unfolding put heard_of
put_none f slot x e = e

-- the number of what is judged
pub outcome_number : (d : Result Scheduled Refusal) (l : Endpoint) → (outcome_paper (record { outcome = d; after = l })).refusal ≡ refusal_of d
unfolding outcome_paper
outcome_number (Ok a) l = refl
outcome_number (Err r) l = refl

pub scheduled : (d : Result Scheduled Refusal) → IsOk d → refusal_of d ≡ 0
scheduled (Ok a) h = refl
scheduled (Err r) h = cc

-- ---- an arrival by its outcome: the number, the record, the answer and the samples

module _ (e : Endpoint) (f : List ℕ) (clock : ℕ) (after answer samples : List ℕ) where
  abbrev Arrives : Moved → ℕ → List ℕ → List ℕ → List ℕ → Type 0
  Arrives v k z x y =
      (k ≡ v.answer.refusal)
      × ((z ≡ put (record_numbers v.after) after) × ((x ≡ put (arrival_numbers v.answer) answer) × (y ≡ put v.answer.samples samples)))

  pub by_unfit : unfit e ≡ true → (k : ℕ) (z x y : List ℕ)
      → k ≡ 14 → z ≡ put (record_numbers e) after → x ≡ put (arrival_numbers (refused_arrival 14)) answer → y ≡ put (refused_arrival 14).samples samples
      → Arrives (numbers_arrival e f clock) k z x y
  by_unfit h k z x y n r p q = subst (λ (v : Moved). Arrives v k z x y) (sym (unfit_is e f clock h)) (n, (r, (p, q)))

  pub by_outcome : unfit e ≡ false → (o : Outcome) → o ≡ outcome_of (arrival_of e f clock) → (k : ℕ) (z x y : List ℕ)
      → k ≡ o.refusal → z ≡ put (record_numbers o.after) after → x ≡ put (o.due ∷ o.reset ∷ o.s ∷ o.dropped ∷ o.width ∷ []) answer → y ≡ (heard_of o.refusal f).samples ++ drop 128 samples
      → Arrives (numbers_arrival e f clock) k z x y
  unfolding arrival_of arrival_by
  by_outcome h o w k z x y n r p q =
      subst (λ (v : Moved). Arrives v k z x y) (sym (fitting_is e f clock h)) (
        n ∙ ap (λ (v : Outcome). v.refusal) w,
        (
          r ∙ ap (λ (v : Outcome). put (record_numbers v.after) after) w,
          (
            p ∙ ap (λ (v : Outcome). put (v.due ∷ v.reset ∷ v.s ∷ v.dropped ∷ v.width ∷ []) answer) w,
            put_heard o.refusal f samples y q ∙ ap (λ (v : Outcome). put (heard_of v.refusal f).samples samples) w,
          ),
        ),
      )

  pub by_judged : unfit e ≡ false → (j : Judged) → outcome_paper j ≡ outcome_of (arrival_of e f clock) → (k : ℕ) (z x y : List ℕ)
      → k ≡ refusal_of j.outcome → z ≡ put (record_numbers j.after) after → x ≡ put (told_numbers j.outcome) answer → y ≡ (heard_of (refusal_of j.outcome) f).samples ++ drop 128 samples
      → Arrives (numbers_arrival e f clock) k z x y
  unfolding outcome_paper
  by_judged h j w k z x y n r p q = go j.outcome w n p q where
    go : (d : Result Scheduled Refusal) → outcome_paper (record { outcome = d; after = j.after }) ≡ outcome_of (arrival_of e f clock)
        → k ≡ refusal_of d → x ≡ put (told_numbers d) answer → y ≡ (heard_of (refusal_of d) f).samples ++ drop 128 samples
        → Arrives (numbers_arrival e f clock) k z x y
    go (Ok a) w n p q = by_outcome h (outcome_paper (record { outcome = Ok a; after = j.after })) w k z x y n r p q
    go (Err t) w n p q = by_outcome h (outcome_paper (record { outcome = Err t; after = j.after })) w k z x y n r p q
