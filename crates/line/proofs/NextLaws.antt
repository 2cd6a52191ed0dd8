-- Laws of the reader's answer and of its output, one for each way out.
use Prim.Native.Nat.{ℕ, suc, ◌+◌, ◌-◌, ◌*◌, ◌/◌, ◌%◌, ◌≤◌, ◌<◌, min}
use mathlib.Core.Path.{◌≡◌, refl, sym, ap, ap₂, ◌∙◌}
use mathlib.Core.Bool.{Bool, true, false, ◌||◌, not}
use mathlib.Core.List.{List, ◌++◌}
use mathlib.Core.Option.{Option, none, some}
use native.Mathlib.Omega.{arith}
use lib.Dec.{ltb, eqb}
use borrow.Author.Tests.{lt-ltb, le-ltb, ltb-false, eqb-true, not-false}
use lib.ListN.{length, get_or, take, drop}
use lib.Seq.{slice, take-take}
use Rattle.octets.proofs.BoolLaws.{or_false}
use Rattle.refusals.specs.Refusals.{◌or_else◌, refusal16}
use Rattle.refusals.proofs.RefusalLaws.{if_taken_lem, if_refused, refused_is, or_else_take, or_else_zero, refuse_zero}
use Rattle.bits.specs.Bits.{bits, value, octets_of}
use Rattle.bits.proofs.BitLaws.{length_octets}
use Rattle.zeros.specs.Zeros.{unstuff}
use Rattle.zeros.specs.Parts.{Calm, More}
use Rattle.bits.specs.Places.{until}
use Rattle.line.specs.Line.{next, closed, opens, ends, between_refusal, Reading}
use Rattle.line.specs.Calls.{past, TakenOff, told, heard_out, next_answer, next_out}
use Rattle.line.proofs.FindLaws.{Lies, open_le, begin_le, lies, aborted_is}
use Rattle.line.proofs.MoreLaws.{all_out}

abbrev no : ℕ → ℕ → TakenOff
no r p = record { refusal = r; found = false; length = 0; place = p }

abbrev got : ℕ → ℕ → TakenOff
got n p = record { refusal = 0; found = true; length = n; place = p }

-- what is not refused makes whole octets
whole_octets : (n r : ℕ) (s : Bool) → r ≡ between_refusal s n → r ≡ 0 → n % 8 ≡ 0
unfolding between_refusal
whole_octets n r s er z = eqb-true (n % 8) 0 (not-false _ (refuse_zero (not (eqb (n % 8) 0)) 21 (or_else_zero _ _ (sym er ∙ z)).0))

-- ---- of any reading

-- an answer, and what is then in out
abbrev Heard : List ℕ → Option Reading → TakenOff → List ℕ → Type 0
Heard out r a o = (a ≡ told (length out) r) × (o ≡ heard_out out r)

module _ (out : List ℕ) (r : Reading) where
  heard_refused : (r.refusal ≡ 0 → ⊥) → Heard out (some r) (no r.refusal r.place) out
  unfolding told heard_out
  heard_refused h = (
    sym (if_refused r.refusal _ _ h),
    refused_is (r.refusal or_else refusal16 (length out) (length r.frame)) r.refusal _ _ out (or_else_take r.refusal _ r.refusal refl h) h refl,
  )

  heard_short : r.refusal ≡ 0 → length out < length r.frame → Heard out (some r) (no 16 0) out
  unfolding told heard_out
  heard_short z l = (rw (z, lt-ltb (length out) (length r.frame) l), rw (z, lt-ltb (length out) (length r.frame) l))

  heard_done : r.refusal ≡ 0 → length r.frame ≤ length out
      → Heard out (some r) (got (length r.frame) r.place) (r.frame ++ drop (length r.frame) out)
  unfolding told heard_out
  heard_done z l = (rw (z, le-ltb (length out) (length r.frame) l), rw (z, le-ltb (length out) (length r.frame) l))

-- ---- of the call

abbrev pub Outcome : List ℕ → List ℕ → ℕ → ℕ → TakenOff → List ℕ → Type 0
Outcome f out count place a o = (a ≡ next_answer f count place (length out)) × (o ≡ next_out f count place out)

pub bounds : (n count place : ℕ) → (past n count || ltb count place) ≡ false → (count ≤ 8 * n) × (place ≤ count)
bounds n count place h = let p = or_false (past n count) (ltb count place) h in (ltb-false _ _ p.0, ltb-false _ _ p.1)

pub next_past : (f out : List ℕ) (count place : ℕ) → past (length f) count ≡ true → Outcome f out count place (no 14 0) out
unfolding next_answer next_out
next_past f out count place h = (rw h, rw h)

pub next_14 : (f out : List ℕ) (count place : ℕ) → (past (length f) count || ltb count place) ≡ true → Outcome f out count place (no 14 0) out
unfolding next_answer next_out
next_14 f out count place h = (rw h, rw h)

pub next_place : (f out : List ℕ) (count place : ℕ) → past (length f) count ≡ false → count < place → Outcome f out count place (no 14 0) out
next_place f out count place h l = next_14 f out count place (rw (h, lt-ltb count place l) refl)

-- of n bits between b and e, which r refuses or not
pub record Judged (f out : List ℕ) (count place b e n r : ℕ) : Type 0 where
  pub refused : (q : ℕ) → r ≡ suc q → Outcome f out count place (no r e) out
  pub short : r ≡ 0 → length out < n / 8 → Outcome f out count place (no 16 0) out
  pub room : r ≡ 0 → n / 8 ≤ length out → 8 * 0 + 0 + length (unstuff 5 (slice b e (bits f))) ≤ 8 * length out
  pub done : r ≡ 0 → n / 8 ≤ length out → (o : List ℕ) (at held m : ℕ) → ((i : ℕ) → get_or o i 0 < 256)
      → More out o 0 0 0 (unstuff 5 (slice b e (bits f))) at held m → Outcome f out count place (got (n / 8) e) o

module _ (f out : List ℕ) (count place b e : ℕ) (h : (past (length f) count || ltb count place) ≡ false) (lies : Lies (take count (bits f)) count place b e) where
  outcome : (r : Option Reading) (a : TakenOff) (o : List ℕ) → next (take count (bits f)) place ≡ r → Heard out r a o → Outcome f out count place a o
  unfolding next_answer next_out
  outcome r a o q k = (k.0 ∙ rw (h, q), k.1 ∙ rw (h, q))

  pub next_none : e ≡ count → Outcome f out count place (no 0 0) out
  unfolding told heard_out
  next_none q = outcome none (no 0 0) out (rw (le-ltb e count (omega arith)) at lies.reads) (refl, refl)

  module _ (q : e ≡ count → ⊥) where
    before : e < count
    before = omega (arith, lies.within)

    pub stands_within : e + 1 ≤ 8 * length f
    stands_within = omega (arith, before, bounds (length f) count place h)

    -- what reading the bits between asks
    pub between : count < 18446744073709551616 → (b ≤ e) × (e ≤ 8 * length f) × (e < 18446744073709551615) × Calm 5 (slice b e (bits f))
    between fits = (
      lies.ordered,
      omega (arith, stands_within),
      omega (arith, before),
      rw (take-take e count (bits f) lies.within) at (lies.calm before),
    )

    abbrev sent : List Bool
    sent = slice b e (bits f)

    reading : Reading
    reading = closed e (drop e (take count (bits f))) sent

    read : next (take count (bits f)) place ≡ some reading
    unfolding reading
    read =
        let n : next (take count (bits f)) place ≡ some (closed e (drop e (take count (bits f))) (slice b e (take count (bits f)))) =
        rw (lt-ltb e count before) at lies.reads in
        n ∙ rw (take-take e count (bits f) lies.within)

    module _ (n r : ℕ) (s : Bool) (en : n ≡ length (unstuff 5 (slice b e (bits f)))) (eo : s ≡ eqb (value (take 1 (drop e (bits f)))) 1)
        (er : r ≡ between_refusal s n) where
      refusal_is : r ≡ reading.refusal
      unfolding reading closed
      refusal_is = er ∙ rw (eo, en, aborted_is f count e before (lies.stands before))

      place_is : e ≡ reading.place
      unfolding reading closed
      place_is = refl

      whole : r ≡ 0 → length (unstuff 5 sent) % 8 ≡ 0
      whole z = sym (ap (λ (x : ℕ). x % 8) en) ∙ whole_octets n r s er z

      frame_is : r ≡ 0 → octets_of (n / 8) (unstuff 5 sent) ≡ reading.frame
      unfolding reading closed
      frame_is z = rw en (sym (if_taken_lem reading.refusal _ _ (sym refusal_is ∙ z)))

      size_is : r ≡ 0 → n / 8 ≡ length reading.frame
      size_is z = sym (length_octets (n / 8) (unstuff 5 sent)) ∙ ap length (frame_is z)

      judged_done : r ≡ 0 → n / 8 ≤ length out → (o : List ℕ) (at held m : ℕ) → ((i : ℕ) → get_or o i 0 < 256)
          → More out o 0 0 0 (unstuff 5 sent) at held m → Outcome f out count place (got (n / 8) e) o
      judged_done z l o at held m octet more =
          let t = heard_done out reading (sym refusal_is ∙ z) (rw (← size_is z) l) in
          let filled : o ≡ octets_of (n / 8) (unstuff 5 sent) ++ drop (n / 8) out = rw en (all_out out o at held m (unstuff 5 sent) octet more (whole z)) in
          outcome (some reading) (got (n / 8) e) o read (
            ap₂ got (size_is z) place_is ∙ t.0,
            filled ∙ ap₂ (λ (x : List ℕ) (k : ℕ). x ++ drop k out) (frame_is z) (size_is z) ∙ t.1,
          )

      pub judged : Judged f out count place b e n r
      judged =
          record {
            refused = λ q z. let t = heard_refused out reading (λ y. omega (arith, refusal_is, y, z)) in outcome (some reading) (no r e) out read (ap₂ no refusal_is place_is ∙ t.0, t.1);
            short = λ z l. outcome (some reading) (no 16 0) out read (heard_short out reading (sym refusal_is ∙ z) (rw (← size_is z) l));
            room = λ z l. omega (arith, en, whole z);
            done = judged_done;
          }

-- ---- of a place from which a reading is looked for, and where it then lies

pub record Found (f out : List ℕ) (count place b e : ℕ) : Type 0 where
  pub none : e ≡ count → Outcome f out count place (no 0 0) out
  pub between : (e ≡ count → ⊥) → (b ≤ e) × (e ≤ 8 * length f) × (e < 18446744073709551615) × Calm 5 (slice b e (bits f))
  pub stands : (e ≡ count → ⊥) → e + 1 ≤ 8 * length f
  pub judged : (e ≡ count → ⊥) → (n r : ℕ) (s : Bool) → n ≡ length (unstuff 5 (slice b e (bits f))) → s ≡ eqb (value (take 1 (drop e (bits f)))) 1
      → r ≡ between_refusal s n → Judged f out count place b e n r

module _ (f out : List ℕ) (count place : ℕ) (p : past (length f) count ≡ false) (q : place ≤ count) where
  counted : count ≤ 8 * length f
  counted = ltb-false _ _ p

  pub sought_within : (place ≤ count) × (count ≤ 8 * length f)
  sought_within = (q, counted)

  module _ (o : ℕ) (eo : o ≡ place + until opens (drop place (take count (bits f)))) where
    pub open_within : o ≤ count
    open_within = open_le f count place o counted q eo

    module _ (m : ℕ) (em : m ≡ min (count - o) 8) where
      pub begin_within : (o + m ≤ count) × (count ≤ 8 * length f)
      begin_within = (begin_le f count place o counted q eo m em, counted)

      pub found : (e : ℕ) → count < 18446744073709551616 → e ≡ o + m + until ends (drop (o + m) (take count (bits f))) → Found f out count place (o + m) e
      found e small ee =
          let h : (past (length f) count || ltb count place) ≡ false = rw (p, le-ltb count place q) refl in
          let l = lies f count place o counted q eo m em e ee in
          record {
            none = next_none f out count place (o + m) e h l;
            between = λ z. between f out count place (o + m) e h l z small;
            stands = stands_within f out count place (o + m) e h l;
            judged = λ z n r s. judged f out count place (o + m) e h l z n r s;
          }
