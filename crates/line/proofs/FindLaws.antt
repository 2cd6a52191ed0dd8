-- Where a reading lies, and what `next` answers there.
use Prim.Native.Nat.{ℕ, suc, ◌+◌, ◌-◌, ◌*◌, ◌≤◌, ◌<◌, min}
use mathlib.Core.Path.{◌≡◌, refl, sym, ap, ◌∙◌}
use mathlib.Core.Bool.{Bool, true, false, cond, beq, false≢true}
use mathlib.Core.List.{List, [], ◌∷◌, ◌++◌}
use mathlib.Core.Option.{none, some}
use mathlib.Core.Logic.{⊎_elim}
use native.Mathlib.Nat.{le_refl, eq-or-lt_of_le}
use native.Mathlib.Omega.{arith}
use lib.Dec.{ltb, eqb}
use borrow.Author.Tests.{lt-ltb, le-ltb, not-true}
use lib.ListN.{length, take, drop, length-drop, drop_of_length-le}
use lib.Seq.{drop-drop, slice, length-take-le}
use Rattle.octets.proofs.BoolLaws.{and_true}
use Rattle.bits.specs.Bits.{bits, value}
use Rattle.bits.specs.Places.{begins, until}
use Rattle.bits.proofs.BitLaws.{length_bits, drop_take, cut}
use Rattle.bits.proofs.MarkLaws.{ones}
use Rattle.bits.proofs.UntilLaws.{begins_long, until_le, until_tells, until_end}
use Rattle.zeros.specs.Parts.{Calm}
use Rattle.line.specs.Line.{flag, flag_here, seven_ones, opens, ends, next, begin, reading, closed}
use Rattle.line.proofs.RoomLaws.{ltb_iff}
use Rattle.line.proofs.StretchLaws.{stretch_calm}

-- where a reading lies: from behind the opening flag to the closing flag or the seven ones, or to the line's end where there is none
pub record Lies (line : List Bool) (count place b e : ℕ) : Type 0 where
  pub ordered : b ≤ e
  pub within : e ≤ count
  pub reads : next line place ≡ cond (ltb e count) (some (closed e (drop e line) (slice b e line))) none
  pub stands : e < count → ends (drop e line) ≡ true
  pub calm : e < count → Calm 5 (slice b e line)

ends_nil : ends [] ≡ false
unfolding begins
ends_nil = refl

opens_nil : opens [] ≡ false
unfolding begins
opens_nil = refl

-- the last bit of what begins with some bits and a zero
last_zero : (p l : List Bool) → begins (p ++ false ∷ []) l ≡ true → drop (length p) l ≡ false ∷ drop (suc (length p)) l
unfolding begins
last_zero [] [] h = absurd (false≢true h)
last_zero [] (false ∷ l) h = refl
last_zero [] (true ∷ l) h = absurd (false≢true h)
last_zero (a ∷ p) [] h = absurd (false≢true h)
last_zero (a ∷ p) (b ∷ l) h = last_zero p l (and_true (beq a b) (begins (p ++ false ∷ []) l) h).1

pub length_line : (f : List ℕ) (count : ℕ) → count ≤ 8 * length f → length (take count (bits f)) ≡ count
length_line f count h = length-take-le count (bits f) (rw (length_bits f) h)

slice_is : (q n : ℕ) (l : List Bool) → take n (drop q l) ≡ slice q (q + n) l
slice_is q n l = let e : q + n - q ≡ n = omega arith in sym (drop_take q (q + n) l ∙ rw e)

module _ (f : List ℕ) (count place o : ℕ) (h : count ≤ 8 * length f) (p : place ≤ count)
    (eo : o ≡ place + until opens (drop place (take count (bits f)))) where
  abbrev l : List Bool
  l = take count (bits f)

  pub open_le : o ≤ count
  open_le = omega (arith, until_le opens (drop place l), length-drop place l, length_line f count h)

  -- no flag opens
  lies_none : o ≡ count → Lies l count place count count
  unfolding next begin reading until begins
  lies_none q =
      let d : drop (place + until opens (drop place l) + 8) l ≡ [] =
      drop_of_length-le l {i = place + until opens (drop place l) + 8} (omega (arith, length_line f count h)) in
      record { ordered = le_refl count; within = le_refl count; reads = rw (d, le-ltb count count (le_refl count)); stands = λ x. absurd (omega arith); calm = λ x. absurd (omega arith) }

  module _ (q : o < count) where
    -- a flag stands there, and none on its last zero
    flag_stands : (flag_here (drop o l) ≡ true) × (flag_here (drop 7 (drop o l)) ≡ false)
    flag_stands =
        let u : ℕ = until opens (drop place l) in
        let ll : length l ≡ count = length_line f count h in
        let t : opens (drop o l) ≡ true =
        rw (eo, ← drop-drop u place l)
        (until_tells opens (drop place l) opens_nil ∙ lt-ltb u (length (drop place l)) (omega (arith, length-drop place l))) in
        let w = and_true _ _ (and_true _ _ t).0 in
        (w.0, not-true _ w.1)

    -- a flag that opens has room
    open_room : o + 8 ≤ count
    open_room = omega (arith, begins_long flag (drop o l) flag_stands.0, length-drop o l, length_line f count h)

    lies_some : (e : ℕ) → e ≡ o + 8 + until ends (drop (o + 8) l) → Lies l count place (o + 8) e
    unfolding next begin reading
    lies_some e ee =
        let b : ℕ = o + 8 in
        let m : ℕ = until ends (drop b l) in
        let ll : length l ≡ count = length_line f count h in
        let none-on-zero : flag_here (false ∷ drop b l) ≡ false =
        rw (← drop-drop 8 o l, ← last_zero (false ∷ ones 6) (drop o l) flag_stands.0) flag_stands.1 in
        let t : ends (drop m (drop b l)) ≡ ltb e count =
        until_tells ends (drop b l) ends_nil
        ∙ ltb_iff m (length (drop b l)) e count (λ x. omega (arith, length-drop b l, open_room)) (λ x. omega (arith, length-drop b l, open_room)) in
        record {
          ordered = omega arith;
          within = omega (arith, until_le ends (drop b l), length-drop b l, open_room);
          reads = rw (← eo, t, slice_is b m l, drop-drop m b l, ← ee);
          stands = λ x. rw ee (sym (ap ends (drop-drop m b l))) ∙ t ∙ lt-ltb e count x;
          calm = λ x. rw (ee, ← slice_is b m l) (stretch_calm (drop b l) none-on-zero (t ∙ lt-ltb e count x));
        }

  -- from behind the flag, or at the end where none opens
  module _ (m : ℕ) (em : m ≡ min (count - o) 8) where
    pub begin_le : o + m ≤ count
    begin_le = omega (arith, open_le)

    pub lies : (e : ℕ) → e ≡ o + m + until ends (drop (o + m) l) → Lies l count place (o + m) e
    lies e ee = ⊎_elim at_end behind (eq-or-lt_of_le open_le)
      where
        at_end : o ≡ count → Lies l count place (o + m) e
        at_end q =
            let b : o + m ≡ count = omega arith in
            let n : until ends (drop (o + m) l) ≡ 0 = until_end ends l (o + m) (omega (arith, length_line f count h)) in
            let c : e ≡ count = omega arith in
            rw (b, c) (lies_none q)

        behind : o < count → Lies l count place (o + m) e
        behind q =
            let b : m ≡ 8 = omega (arith, open_room q) in
            rw b (lies_some q e (rw b at ee))

-- ---- what stands at its end: seven ones begin with a one, and a flag does not

one_first : (l : List Bool) → ends l ≡ true → eqb (value (take 1 l)) 1 ≡ seven_ones l
unfolding begins value
one_first [] h = absurd (false≢true h)
one_first (true ∷ l) h = sym h
one_first (false ∷ l) h = refl

pub aborted_is : (f : List ℕ) (count e : ℕ) → e < count → ends (drop e (take count (bits f))) ≡ true
    → eqb (value (take 1 (drop e (bits f)))) 1 ≡ seven_ones (drop e (take count (bits f)))
aborted_is f count e h s =
    ap (λ (x : List Bool). eqb (value x) 1) (sym (cut e 1 count (bits f) (omega arith))) ∙ one_first (drop e (take count (bits f))) s
