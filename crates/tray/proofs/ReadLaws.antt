-- How a tray is read, a record at a time.
use Prim.Native.Nat.{ℕ, zero, suc, ◌+◌, ◌-◌, ◌*◌, ◌/◌, ◌%◌, ◌≤◌, ◌<◌}
use mathlib.Core.Path.{◌≡◌, refl, sym, ap, ap₂, ◌∙◌}
use mathlib.Core.Bool.{Bool, true, false, ◌&&◌}
use mathlib.Core.List.{List, [], ◌∷◌, ◌++◌}
use native.Mathlib.Omega.{arith}
use lib.Dec.{eqb, leb}
use lib.ListN.{length, take, drop, length-append, length-drop}
use lib.Seq.{take_at, drop_at, drop-drop}
use borrow.Author.Tests.{eq-eqb, eqb-true, le-leb, leb-true}
use Rattle.octets.specs.Records.{following, kind}
use Rattle.octets.proofs.BoolLaws.{and_true}
use Rattle.tray.specs.Tray.{whole, frame, Read, with_frame, read_past, read, record_head, record_of, records_of}
use Rattle.tray.specs.Turns.{Fit}

-- what a record that is there has
pub record Whole (r : List ℕ) : Type 0 where
  pub of_kind : kind r ≡ 1
  pub long : 2 ≤ following r
  pub here : 2 + following r ≤ length r

pub whole_known : (r : List ℕ) → whole r ≡ true → Whole r
unfolding whole
whole_known r h =
    let p = and_true (eqb (kind r) 1 && leb 2 (following r)) (leb (2 + following r) (length r)) h in
    let q = and_true (eqb (kind r) 1) (leb 2 (following r)) p.0 in
    record { of_kind = eqb-true _ _ q.0; long = leb-true _ _ q.1; here = leb-true _ _ p.1 }

all_three : (a b c : Bool) → a ≡ true → b ≡ true → c ≡ true → (a && b && c) ≡ true
all_three a b c p q r = rw (p, q, r)

pub whole_made : (r : List ℕ) → Whole r → whole r ≡ true
unfolding whole
whole_made r w = all_three (eqb (kind r) 1) (leb 2 (following r)) (leb (2 + following r) (length r)) (eq-eqb _ _ w.of_kind) (le-leb _ _ w.long) (le-leb _ _ w.here)

-- octets that are passed over might as well not be there
passed_over : (r : List ℕ) (n : ℕ) → read_past r n ≡ read (drop n r)
unfolding read_past
passed_over [] zero = refl
passed_over [] (suc n) = refl
passed_over (x ∷ r) zero = refl
passed_over (x ∷ r) (suc n) = passed_over r n

-- a tray that begins with a record, and one that does not
pub read_whole : (r : List ℕ) → whole r ≡ true → read r ≡ with_frame (frame r) (read (drop (2 + following r) r))
unfolding read_past
read_whole [] h = let w = whole_known [] h in absurd (omega (arith, w.here))
read_whole (x ∷ r) h =
    let n : suc (1 + following (x ∷ r)) ≡ 2 + following (x ∷ r) = omega arith in
    rw h (ap (with_frame (frame (x ∷ r))) (passed_over r (1 + following (x ∷ r)) ∙ ap (λ (k : ℕ). read (drop k (x ∷ r))) n))

pub read_none : (r : List ℕ) → whole r ≡ false → read r ≡ record { frames = []; left = r }
unfolding read_past
read_none [] h = refl
read_none (x ∷ r) h = rw h

-- where there is a frame, there is a record
pub some_whole : (r : List ℕ) → 0 < length (read r).frames → whole r ≡ true
some_whole r h = go (whole r) refl where
  go : (v : Bool) → whole r ≡ v → whole r ≡ true
  go true e = e
  go false e = absurd (omega (arith, ap (λ (t : Read). length t.frames) (read_none r e)))

-- the record that begins at `at`, of n octets behind its length
module _ (tray : List ℕ) (at n : ℕ) (w : whole (drop at tray) ≡ true) (e : n ≡ following (drop at tray)) where
  pub next_size : at ≤ length tray → (4 ≤ 2 + n) × (at + (2 + n) ≤ length tray)
  next_size inside =
      let k = whole_known (drop at tray) w in
      (omega (arith, k.long), omega (arith, k.here, length-drop at tray))

  pub next_read : read (drop at tray) ≡ with_frame (frame (drop at tray)) (read (drop (at + (2 + n)) tray))
  next_read =
      read_whole (drop at tray) w
      ∙ ap (λ (r : List ℕ). with_frame (frame (drop at tray)) (read r)) (ap (λ (i : ℕ). drop (2 + i) (drop at tray)) (sym e) ∙ drop-drop (2 + n) at tray)

-- a record that was made is read as it was made, if its length goes into two octets
pub record_length : (f : List ℕ) → length (record_of f) ≡ 4 + length f
unfolding record_of
record_length f = length-append (record_head (length f)) f

two_octets_hold : (n : ℕ) → n < 65536 → n % 256 + 256 * (n / 256 % 256) ≡ n
two_octets_hold n h = omega arith

module _ (f more : List ℕ) (h : length f + 2 < 65536) where
  made_following : following (record_of f ++ more) ≡ length f + 2
  unfolding record_of
  made_following = two_octets_hold (length f + 2) h

  made_kind : kind (record_of f ++ more) ≡ 1
  unfolding record_of
  made_kind = refl

  made_length : length (record_of f ++ more) ≡ 4 + length f + length more
  made_length = length-append (record_of f) more ∙ ap (λ (k : ℕ). k + length more) (record_length f)

  made_behind : drop 4 (record_of f ++ more) ≡ f ++ more
  unfolding record_of
  made_behind = refl

  made_frame : frame (record_of f ++ more) ≡ f
  unfolding frame
  made_frame =
      ap (take (following (record_of f ++ more) - 2)) made_behind ∙ take_at f more (following (record_of f ++ more) - 2) (omega (arith, made_following))

  pub read_made : read (record_of f ++ more) ≡ with_frame f (read more)
  read_made =
      read_whole (record_of f ++ more) (whole_made _ (record { of_kind = made_kind; long = omega (arith, made_following); here = omega (arith, made_following, made_length) }))
      ∙ ap₂ (λ (g r : List ℕ). with_frame g (read r)) made_frame
      (drop_at (record_of f) more (2 + following (record_of f ++ more)) (record_length f ∙ omega (arith, made_following)))

-- a tray that is made of frames is read as these frames
pub read_records : (fs : List (List ℕ)) → Fit fs → read (records_of fs) ≡ record { frames = fs; left = [] }
unfolding records_of read_past
read_records [] h = refl
read_records (f ∷ fs) h = read_made f (records_of fs) h.0 ∙ ap (with_frame f) (read_records fs h.1)
