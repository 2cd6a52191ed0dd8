-- Request A4: after any damaged stretch the first whole flag opens the next frame, and everything after it reads as from a fresh start.
use Prim.Native.Nat.{ℕ, zero, suc, ◌+◌, ◌-◌, ◌≤◌, ◌<◌}
use mathlib.Core.Path.{◌≡◌, refl, sym, ap, ap₂, ◌∙◌}
use mathlib.Core.Logic.{◌⊎◌, inl, inr, ⊎_elim}
use mathlib.Core.Bool.{Bool, true, false, ◌&&◌, not, cond, beq, false≢true}
use mathlib.Core.List.{List, [], ◌∷◌, ◌++◌, map}
use mathlib.Core.Option.{Option, none, some}
use native.Mathlib.Nat.{zero-add, suc-add, add_assoc, add-zero}
use native.Mathlib.Omega.{arith}
use borrow.Author.Tests.{not-true}
use lib.ListN.{length, take, drop, length-drop}
use lib.Seq.{drop-append-add, drop-append_seam, drop-append-le}
use Rattle.octets.proofs.BoolLaws.{and_true}
use Rattle.bits.specs.Places.{begins, until}
use Rattle.line.specs.Line.{flag, flag_here, opens, ends, next, begin, reading, closed, Reading}
use Rattle.wire.proofs.Readings.{reads, later, Resumes}
use Rattle.wire.proofs.LineLaws.{until_here}
use Rattle.wire.proofs.ReadBack.{reads_none, reads_some}

-- ---- a reading does not depend on what stands before its place

abbrev shifted : ℕ → Option Reading → Option Reading
shifted d none = none
shifted d (some r) = some (later d r)

reading_shift : (d p : ℕ) (bs : List Bool) → reading (d + p) bs ≡ shifted d (reading p bs)
unfolding reading closed
reading_shift d p bs = go (ends (drop (until ends bs) bs))
  where
    n : ℕ
    n = until ends bs

    go : (b : Bool) → cond b (some (closed (d + p + n) (drop n bs) (take n bs))) none ≡ shifted d (cond b (some (closed (p + n) (drop n bs) (take n bs))) none)
    go true = rw (add_assoc d p n)
    go false = refl

next_shift : (d rest : List Bool) (q : ℕ) → next (d ++ rest) (length d + q) ≡ shifted (length d) (next rest q)
unfolding next begin
next_shift d rest q =
    let o : ℕ = until opens (drop q rest) in
    let e : length d + q + o + 8 ≡ length d + (q + o + 8) = omega arith in
    rw (drop-append-add d rest q, e, drop-append-add d rest (q + o + 8)) (reading_shift (length d) (q + o + 8) (drop (q + o + 8) rest))

pub reads_shift : (n : ℕ) (d rest : List Bool) (q : ℕ) → reads n (d ++ rest) (length d + q) ≡ map (later (length d)) (reads n rest q)
unfolding reads
reads_shift zero d rest q = refl
reads_shift (suc n) d rest q = go (next rest q) refl (λ p. reads_shift n d rest p)
  where
    go : (o : Option Reading) → next rest q ≡ o → ((p : ℕ) → reads n (d ++ rest) (length d + p) ≡ map (later (length d)) (reads n rest p))
        → reads (suc n) (d ++ rest) (length d + q) ≡ map (later (length d)) (reads (suc n) rest q)
    go none e ih =
        reads_none (suc n) (d ++ rest) (length d + q) (next_shift d rest q ∙ ap (shifted (length d)) e)
        ∙ sym (ap (map (later (length d))) (reads_none (suc n) rest q e))
    go (some r) e ih =
        reads_some n (d ++ rest) (length d + q) (later (length d) r) (next_shift d rest q ∙ ap (shifted (length d)) e)
        ∙ ap (λ (l : List Reading). later (length d) r ∷ l) (ih r.place)
        ∙ sym (ap (map (later (length d))) (reads_some n rest q r e))

-- ---- two flags overlap in a zero at most

same : (a b : Bool) → beq a b ≡ true → a ≡ b
same true true h = refl
same true false h = sym h
same false true h = h
same false false h = refl

begins_form : (p s : List Bool) → begins p s ≡ true → (t : List Bool) × (s ≡ p ++ t)
unfolding begins
begins_form [] s h = (s, refl)
begins_form (a ∷ p) [] h = absurd (false≢true h)
begins_form (a ∷ p) (b ∷ s) h =
    let q = and_true (beq a b) (begins p s) h in
    let k = begins_form p s q.1 in
    (k.0, ap₂ (λ (x : Bool) (l : List Bool). x ∷ l) (sym (same a b q.0)) k.1)

pub opens_parts : (s : List Bool) → opens s ≡ true → (flag_here s ≡ true) × (flag_here (drop 7 s) ≡ false) × (flag_here (drop 8 s) ≡ false)
opens_parts s h =
    let p = and_true (flag_here s && not (flag_here (drop 7 s))) (not (flag_here (drop 8 s))) h in
    let q = and_true (flag_here s) (not (flag_here (drop 7 s))) p.0 in
    (q.0, not-true _ q.1, not-true _ p.1)

apart_at : (t : List Bool) (k : ℕ) → flag_here (drop 7 (flag ++ t)) ≡ false → flag_here (drop 8 (flag ++ t)) ≡ false → flag_here (drop (suc k) (flag ++ t)) ≡ true → 8 ≤ k
unfolding begins
apart_at t zero x y h = absurd (false≢true h)
apart_at t (suc zero) x y h = absurd (false≢true h)
apart_at t (suc (suc zero)) x y h = absurd (false≢true h)
apart_at t (suc (suc (suc zero))) x y h = absurd (false≢true h)
apart_at t (suc (suc (suc (suc zero)))) x y h = absurd (false≢true h)
apart_at t (suc (suc (suc (suc (suc zero))))) x y h = absurd (false≢true h)
apart_at t (suc (suc (suc (suc (suc (suc zero)))))) x y h = absurd (false≢true (sym x ∙ h))
apart_at t (suc (suc (suc (suc (suc (suc (suc zero))))))) x y h = absurd (false≢true (sym y ∙ h))
apart_at t (suc (suc (suc (suc (suc (suc (suc (suc k)))))))) x y h = omega arith

-- the next flag behind one that opens has something before it
apart : (s : List Bool) (k : ℕ) → opens s ≡ true → flag_here (drop k s) ≡ true → 0 < k → 9 ≤ k
apart s zero o h l = absurd (omega arith)
apart s (suc k) o h l =
    let q = opens_parts s o in
    let f = begins_form flag s q.0 in
    let x : flag_here (drop 7 (flag ++ f.0)) ≡ false = rw f.1 at q.1 in
    let y : flag_here (drop 8 (flag ++ f.0)) ≡ false = rw f.1 at q.2 in
    let z : flag_here (drop (suc k) (flag ++ f.0)) ≡ true = rw f.1 at h in
    omega (arith, apart_at f.0 k x y z)

-- ---- where a test first holds

-- within e, or behind it
until_split : (test : List Bool → Bool) (e rest : List Bool)
    → ((until test (e ++ rest) < length e) × (test (drop (until test (e ++ rest)) (e ++ rest)) ≡ true)) ⊎ (until test (e ++ rest) ≡ length e + until test rest)
unfolding until
until_split test [] rest = inr (sym (zero-add (until test rest)))
until_split test (b ∷ e) rest = go (test (b ∷ (e ++ rest))) refl (until_split test e rest)
  where
    m : ℕ
    m = until test (e ++ rest)

    go : (t : Bool) → test (b ∷ (e ++ rest)) ≡ t
        → ((m < length e) × (test (drop m (e ++ rest)) ≡ true)) ⊎ (m ≡ length e + until test rest)
        → ((until test (b ∷ (e ++ rest)) < suc (length e)) × (test (drop (until test (b ∷ (e ++ rest))) (b ∷ (e ++ rest))) ≡ true)) ⊎ (until test (b ∷ (e ++ rest)) ≡ suc (length e) + until test rest)
    go true h ih = inl (rw h (omega arith), rw h h)
    go false h (inl i) = inl (rw h (omega (arith, i.0)), rw h i.1)
    go false h (inr i) = inr (rw (h, i) (sym (suc-add (length e) (until test rest))))

-- a test that holds of rest holds there at the latest
until_reach : (test : List Bool → Bool) (e rest : List Bool) → test rest ≡ true
    → (until test (e ++ rest) ≤ length e) × (test (drop (until test (e ++ rest)) (e ++ rest)) ≡ true)
until_reach test e rest h = ⊎_elim (λ i. (omega (arith, i.0), i.1)) (λ i. late i) (until_split test e rest)
  where
    late : until test (e ++ rest) ≡ length e + until test rest → (until test (e ++ rest) ≤ length e) × (test (drop (until test (e ++ rest)) (e ++ rest)) ≡ true)
    late i =
        let k : until test (e ++ rest) ≡ length e = i ∙ rw (until_here test rest h) (add-zero (length e)) in
        (omega arith, rw (k, drop-append_seam e rest) h)

-- ---- the damaged stretch

-- what a reading that begins in d, before a whole flag, gives: one that ends in d or at that flag, and later than it began
record Inside (d rest : List Bool) (p : ℕ) : Type 0 where
  r : Reading
  found : next (d ++ rest) p ≡ some r
  on : p < r.place
  within : r.place ≤ length d

reading_reach : (q : ℕ) (e rest : List Bool) → ends rest ≡ true
    → (r : Reading) × (reading q (e ++ rest) ≡ some r) × (r.place ≤ q + length e) × (q ≤ r.place)
unfolding reading closed
reading_reach q e rest h =
    let b = until_reach ends e rest h in
    let n : ℕ = until ends (e ++ rest) in
    (closed (q + n) (drop n (e ++ rest)) (take n (e ++ rest)), rw b.1, omega (arith, b.0), omega arith)

inside : (d rest : List Bool) (p : ℕ) → p ≤ length d → flag_here rest ≡ true
    → until opens (drop p d ++ rest) < length (drop p d) → opens (drop (until opens (drop p d ++ rest)) (drop p d ++ rest)) ≡ true
    → Inside d rest p
unfolding next begin
inside d rest p h f l o =
    let e : List Bool = drop p d in
    let n : ℕ = until opens (e ++ rest) in
    let g : List Bool = drop n e in
    let eg : drop n (e ++ rest) ≡ g ++ rest = drop-append-le n e rest (omega arith) in
    let lg : length g ≡ length e - n = length-drop n e in
    let le : length e ≡ length d - p = length-drop p d in
    let far : 9 ≤ length g = apart (g ++ rest) (length g) (rw eg at o) (rw (drop-append_seam g rest) f) (omega arith) in
    let q : ℕ = p + n + 8 in
    let k = reading_reach q (drop q d) rest (rw f) in
    record {
      r = k.0;
      found = rw (drop-append-le p d rest h, drop-append-le q d rest (omega arith)) k.1;
      on = omega (arith, k.3);
      within = omega (arith, k.2, length-drop q d);
    }

-- a reading that opens at the whole flag, or behind it, is that of the flag itself
outside : (d rest : List Bool) (p : ℕ) → p ≤ length d → until opens (drop p d ++ rest) ≡ length (drop p d) + until opens rest
    → next (d ++ rest) p ≡ next (d ++ rest) (length d + 0)
unfolding next begin
outside d rest p h i =
    let e : p + (length (drop p d) + until opens rest) + 8 ≡ length d + 0 + until opens rest + 8 = omega (arith, length-drop p d) in
    rw (drop-append-le p d rest h, i, drop-append-add d rest 0, e)

same_reads : (n : ℕ) (line : List Bool) (p q : ℕ) → next line p ≡ next line q → reads n line p ≡ reads n line q
unfolding reads
same_reads zero line p q h = refl
same_reads (suc n) line p q h = rw (h, reads)

none_first : (d rest : List Bool) (p : ℕ) → next (d ++ rest) p ≡ next (d ++ rest) (length d + 0) → Resumes d rest p
none_first d rest p e = record {
  damage = [];
  first = tt;
  then = λ n. rw (zero-add n) (same_reads n (d ++ rest) p (length d + 0) e ∙ reads_shift n d rest 0);
}

one_more : (d rest : List Bool) (p : ℕ) → (i : Inside d rest p) → Resumes d rest i.r.place → Resumes d rest p
one_more d rest p i k = record {
  damage = i.r ∷ k.damage;
  first = (i.within, k.first);
  then = λ n. rw (suc-add (length k.damage) n)
      (reads_some (length k.damage + n) (d ++ rest) p i.r i.found ∙ ap (λ (l : List Reading). i.r ∷ l) (k.then n));
}

resume : (m : ℕ) (d rest : List Bool) (p : ℕ) → p ≤ length d → length d ≤ p + m → flag_here rest ≡ true → Resumes d rest p
resume zero d rest p h l f =
    ⊎_elim (λ i. absurd (omega (arith, i.0, length-drop p d))) (λ i. none_first d rest p (outside d rest p h i)) (until_split opens (drop p d) rest)
resume (suc m) d rest p h l f =
    ⊎_elim
    (λ i. let k = inside d rest p h f i.0 i.1 in one_more d rest p k (resume m d rest k.r.place k.within (omega (arith, k.on)) f))
    (λ i. none_first d rest p (outside d rest p h i))
    (until_split opens (drop p d) rest)

pub resumes : (d rest : List Bool) (p : ℕ) → p ≤ length d → flag_here rest ≡ true → Resumes d rest p
resumes d rest p h f = resume (length d) d rest p h (omega arith) f
