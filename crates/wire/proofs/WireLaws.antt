-- Request A4 over the calls and their buffers: frames added read back as themselves, and a reader recovers behind any damage.
use Prim.Native.Nat.{ℕ, zero, suc, ◌+◌, ◌*◌, ◌/◌, ◌%◌, ◌≤◌, ◌<◌}
use mathlib.Core.Path.{◌≡◌, refl, sym, ap, ◌∙◌}
use mathlib.Core.Bool.{Bool, true, false, not, cond, false≢true, and-not_self}
use mathlib.Core.List.{List, [], ◌∷◌, ◌++◌, map, append_assoc, map-map, map-append}
use mathlib.Core.Option.{Option, none, some}
use native.Mathlib.Nat.{le_refl}
use native.Mathlib.Omega.{arith}
use lib.Dec.{eqb, ltb, eqb-suc-zero}
use borrow.Author.Tests.{le-ltb, ltb-false}
use lib.ListN.{length, take, drop, length-append, length-take, length-drop, length-map}
use lib.Seq.{take_at, take_all, length-take-le, take-append_seam}
use Rattle.octets.proofs.BoolLaws.{or_false}
use Rattle.refusals.specs.Refusals.{refuse, if_taken, refusal1}
use Rattle.refusals.proofs.RefusalLaws.{or_else_zero, refuse_zero}
use Rattle.bits.specs.Bits.{bits, octets_of}
use Rattle.bits.proofs.BitLaws.{length_bits, length_octets, bits_of_octets}
use Rattle.bits.specs.Places.{begins, until}
use Rattle.line.specs.Line.{Reading, flag_here, ends, put, next, begin, reading, closed, between_refusal}
use Rattle.line.specs.Calls.{over, news, add_refusal, add_answer, add_bits, add_line, told, heard_out, next_refusal14, next_answer, next_out}
use Rattle.line.proofs.RoomLaws.{over_less}
use Rattle.wire.proofs.Readings.{reads, later}
use Rattle.wire.specs.Wire.{Each, put_all, Frames, buffer_after, count_after, AllAdded, Room, Written, Lent, Call, calls, said, whole, later_call, Recovers}
use Rattle.wire.proofs.EachLaws.{each_map}
use Rattle.wire.proofs.ReadBack.{reads_none, reads_some, put_all_more, reads_back}
use Rattle.wire.proofs.Resync.{resumes}

-- ---- writing

put_all_long : (line : List Bool) (fs : List (List ℕ)) → length line ≤ length (put_all line fs)
unfolding put_all
put_all_long line [] = le_refl (length line)
put_all_long line (f ∷ fs) = omega (arith, put_all_long (line ++ put line f) fs, length-append line (put line f))

-- one call that has room for what the frame puts on the line: it is taken, and what it puts stands behind the line
record One (buffer : List ℕ) (count : ℕ) (f : List ℕ) : Type 0 where
  taken : (add_answer buffer count f).refusal ≡ 0
  line : take (add_answer buffer count f).count (bits (add_line buffer count f)) ≡ take count (bits buffer) ++ news buffer count f
  within : (add_answer buffer count f).count ≤ 8 * length (add_line buffer count f)
  size : length (add_line buffer count f) ≡ length buffer

one : (buffer : List ℕ) (count : ℕ) (f : List ℕ) → count ≤ 8 * length buffer → refusal1 (length f) ≡ 0
    → over (length buffer) (count + length (news buffer count f)) ≡ false → One buffer count f
unfolding add_refusal add_answer add_bits add_line
one buffer count f h s o =
    let b : List Bool = bits buffer in
    let l : List Bool = take count b in
    let w : List Bool = news buffer count f in
    let k : ℕ = count + length w in
    let lb : length b ≡ 8 * length buffer = length_bits buffer in
    let fit : k ≤ 8 * length buffer = ltb-false _ _ (or_false _ _ o).0 in
    let z : add_refusal buffer count f ≡ 0 = rw (le-ltb (8 * length buffer) count h, s, o) in
    let lw : length (l ++ w) ≡ k = length-append l w ∙ omega (arith, length-take-le count b (omega arith)) in
    let all : List Bool = (l ++ w) ++ drop k b in
    let full : length all ≡ 8 * length buffer = length-append (l ++ w) (drop k b) ∙ omega (arith, length-drop k b) in
    let e : bits (octets_of (length buffer) all) ≡ all =
    bits_of_octets (length buffer) all (omega arith) ∙ take_all (8 * length buffer) all (omega arith) in
    record {
      taken = rw z;
      line = rw (z, ← append_assoc l w (drop k b), e) (take_at (l ++ w) (drop k b) k lw);
      within = rw (z, length_octets) fit;
      size = length_octets (length buffer) (add_bits buffer count f);
    }

-- any frames that there is room for, on any line so far
pub added : (buffer : List ℕ) (count : ℕ) (fs : List (List ℕ)) → count ≤ 8 * length buffer → Frames fs → Room buffer count fs → Written buffer count fs
unfolding put_all buffer_after count_after AllAdded
added buffer count [] h s o =
    record { all = tt; line = refl; long = sym (length-take-le count (bits buffer) (rw (length_bits buffer) h)); within = h }
added buffer count (f ∷ fs) h s o =
    let b : List Bool = bits buffer in
    let l : List Bool = take count b in
    let w : List Bool = news buffer count f in
    let ll : length l ≡ count = length-take-le count b (rw (length_bits buffer) h) in
    let n : count + length w ≤ length (put_all (l ++ w) fs) = omega (arith, put_all_long (l ++ w) fs, length-append l w) in
    let k : One buffer count f =
    one buffer count f h s.0.size (sym (over_less (length buffer) (count + length w) (length (put_all (l ++ w) fs)) n o)) in
    let r = added (add_line buffer count f) (add_answer buffer count f).count fs k.within s.1 (rw (k.size, k.line) o) in
    record { all = (k.taken, r.all); line = r.line ∙ rw k.line; long = r.long ∙ rw k.line; within = r.within }

-- ---- what a reading holds

-- a frame of at most 490 octets, or a refusal and no octet
abbrev Fits : ℕ → List ℕ → Type 0
Fits zero f = length f ≤ 490
Fits (suc q) f = f ≡ []

-- and a place at or before e
abbrev Holds : ℕ → Option Reading → Type 0
Holds e none = Unit {0}
Holds e (some r) = (r.place ≤ e) × Fits r.refusal r.frame

closed_fits : (aborted : Bool) (n q : ℕ) (u : List Bool) → between_refusal aborted n ≡ q → Fits q (if_taken q (octets_of (n / 8) u) [])
unfolding between_refusal
closed_fits aborted n zero u h =
    let r : refusal1 (n / 8) ≡ 0 = (or_else_zero (refuse aborted 23) (refusal1 (n / 8)) (or_else_zero (refuse (not (eqb (n % 8) 0)) 22) _ h).1).1 in
    omega (arith, length_octets (n / 8) u, ltb-false 490 (n / 8) (or_false (ltb (n / 8) 10) (ltb 490 (n / 8)) (refuse_zero _ 0 r)).1)
closed_fits aborted n (suc q) u h = refl

ends_some : (bs : List Bool) → ends bs ≡ true → 0 < length bs
unfolding begins
ends_some [] h = absurd (false≢true h)
ends_some (b ∷ bs) h = omega arith

reading_holds : (p e : ℕ) (bs : List Bool) → (0 < length bs → p + length bs ≤ e) → Holds e (reading p bs)
unfolding reading closed
reading_holds p e bs l = go (ends (drop n bs)) refl
  where
    n : ℕ
    n = until ends bs

    go : (t : Bool) → ends (drop n bs) ≡ t → Holds e (cond t (some (closed (p + n) (drop n bs) (take n bs))) none)
    go true h =
        let k : n < length bs = omega (arith, ends_some (drop n bs) h, length-drop n bs) in
        (omega (arith, l (omega arith)), closed_fits _ _ _ _ refl)
    go false h = tt

next_holds : (line : List Bool) (p : ℕ) → Holds (length line) (next line p)
unfolding next
next_holds line p =
    let b : ℕ = begin line p in
    reading_holds b (length line) (drop b line) (λ h. omega (arith, length-drop b line))

-- ---- calls of `next` are readings of the line

abbrev pub call_of : Reading → Call
call_of r = record {
  answer = record { refusal = r.refusal; found = eqb r.refusal 0; length = length r.frame; place = r.place };
  heard = r.frame;
}

fits_small : (q : ℕ) (f : List ℕ) → Fits q f → length f ≤ 490
fits_small zero f h = h
fits_small (suc q) f h = rw h (omega arith)

-- with room for any frame a call answers the reading, and its octets stand in front
told_is : (q p : ℕ) (f out : List ℕ) → Fits q f → 490 ≤ length out → let r : Reading = record { refusal = q; frame = f; place = p } in
    (told (length out) (some r) ≡ (call_of r).answer) × (heard_out out (some r) ≡ f ++ drop (length f) out)
unfolding told heard_out
told_is zero p f out h l = let e : ltb (length out) (length f) ≡ false = le-ltb (length out) (length f) (omega arith) in (rw e, rw e)
told_is (suc q) p f out h l = (rw (h, eqb-suc-zero q), rw h)

module _ (line : List Bool) (buffer : List ℕ) (count place : ℕ) (out : List ℕ) (lent : Lent line buffer count out) (before : place ≤ length line) where
  no_14 : next_refusal14 buffer count place ≡ 0
  no_14 =
      let h : place ≤ count = omega (arith, length-take count (bits buffer), ap length lent.is) in
      rw (le-ltb (8 * length buffer) count lent.within, le-ltb count place h)

  calls_none : (n : ℕ) → next line place ≡ none → calls n buffer count place out ≡ []
  unfolding calls next_answer next_out told
  calls_none zero e = refl
  calls_none (suc n) e = rw (no_14, lent.is, e)

  calls_some : (n : ℕ) (r : Reading) → Fits r.refusal r.frame → next line place ≡ some r
      → calls (suc n) buffer count place out ≡ call_of r ∷ calls n buffer count r.place (r.frame ++ drop (length r.frame) out)
  unfolding calls next_answer next_out
  calls_some n r fits e =
      let t = told_is r.refusal r.place r.frame out fits lent.room in
      rw (no_14, lent.is, e, t.0, t.1, and-not_self (eqb r.refusal 0), take-append_seam r.frame (drop (length r.frame) out))

-- calls are readings of the line
pub calls_are_reads : (line : List Bool) (buffer : List ℕ) (count n place : ℕ) (out : List ℕ) → Lent line buffer count out → place ≤ length line
    → calls n buffer count place out ≡ map call_of (reads n line place)
unfolding calls reads
calls_are_reads line buffer count zero place out lent before = refl
calls_are_reads line buffer count (suc n) place out lent before = go (next line place) refl (next_holds line place) (calls_are_reads line buffer count n)
  where
    go : (o : Option Reading) → next line place ≡ o → Holds (length line) o
        → ((p : ℕ) (out : List ℕ) → Lent line buffer count out → p ≤ length line → calls n buffer count p out ≡ map call_of (reads n line p))
        → calls (suc n) buffer count place out ≡ map call_of (reads (suc n) line place)
    go none e h ih = calls_none line buffer count place out lent before (suc n) e ∙ sym (ap (map call_of) (reads_none (suc n) line place e))
    go (some r) e h ih =
        let f : List ℕ = r.frame in
        let long : 490 ≤ length (f ++ drop (length f) out) =
        omega (arith, lent.room, length-append f (drop (length f) out), length-drop (length f) out, fits_small r.refusal f h.1) in
        calls_some line buffer count place out lent before n r h.1 e
        ∙ ap (λ (cs : List Call). call_of r ∷ cs) (ih r.place (f ++ drop (length f) out) (record { within = lent.within; is = lent.is; room = long }) h.0)
        ∙ sym (ap (map call_of) (reads_some n line place r e))

-- ---- what was added reads back

-- the frames that were added, and however many more calls are made nothing between and nothing after
pub read_back : (fs : List (List ℕ)) (buffer out : List ℕ) (n : ℕ) → Frames fs → Room buffer 0 fs → 490 ≤ length out
    → map said (calls (length fs + n) (buffer_after buffer 0 fs) (count_after buffer 0 fs) 0 out) ≡ map whole fs
read_back fs buffer out n s o room =
    let w = added buffer 0 fs (omega arith) s o in
    ap (map said)
    (calls_are_reads (put_all [] fs) (buffer_after buffer 0 fs) (count_after buffer 0 fs) (length fs + n) 0 out (record { within = w.within; is = w.line; room = room }) (omega arith))
    ∙ map-map said call_of (reads (length fs + n) (put_all [] fs) 0)
    ∙ reads_back fs n s

-- ---- behind damage

flag_first : (f : List ℕ) (fs : List (List ℕ)) → flag_here (put_all [] (f ∷ fs)) ≡ true
unfolding put_all put begins
flag_first f fs = rw (put_all_more false _ fs)

module _ (d rest : List Bool) (p : ℕ) (buffer : List ℕ) (count : ℕ) (out : List ℕ) (lent : Lent (d ++ rest) buffer count out)
    (opened : flag_here rest ≡ true) (before : p ≤ length d) where
  behind : Recovers (length d) buffer count p out (λ n. map call_of (reads n rest 0))
  behind =
      let r = resumes d rest p before opened in
      let k : List Reading = r.damage in
      record {
        damage = map call_of k;
        first = each_map (λ x. x.place ≤ length d) (λ c. c.answer.place ≤ length d) call_of (λ x e. e) k r.first;
        then = λ n. let t : List Reading = reads n rest 0 in
            rw (length-map k call_of)
            (calls_are_reads (d ++ rest) buffer count (length k + n) p out lent (omega (arith, length-append d rest))
            ∙ ap (map call_of) (r.then n)
            ∙ map-append call_of k (map (later (length d)) t)
            ∙ ap (λ (cs : List Call). map call_of k ++ cs) (map-map call_of (later (length d)) t ∙ sym (map-map (later_call (length d)) call_of t)));
      }

  -- after any damaged stretch the first whole flag opens the next frame, and everything after it is as on a line that begins there
  pub resynchronises : (buffer₂ : List ℕ) (count₂ : ℕ) (out₂ : List ℕ) → Lent rest buffer₂ count₂ out₂
      → Recovers (length d) buffer count p out (λ n. calls n buffer₂ count₂ 0 out₂)
  resynchronises buffer₂ count₂ out₂ lent₂ = record {
    damage = behind.damage;
    first = behind.first;
    then = λ n. rw (calls_are_reads rest buffer₂ count₂ n 0 out₂ lent₂ (omega arith)) (behind.then n);
  }

-- so frames behind any damage, on a flag of their own, are read once it is past: all of them, with nothing between and nothing after
pub read_behind : (d : List Bool) (f : List ℕ) (fs : List (List ℕ)) (p : ℕ) (buffer : List ℕ) (count : ℕ) (out : List ℕ)
    → Lent (d ++ put_all [] (f ∷ fs)) buffer count out → p ≤ length d → Frames (f ∷ fs)
    → (damage : List Call) × Each (λ c. c.answer.place ≤ length d) damage
    × ((n : ℕ) → map said (calls (length damage + (length (f ∷ fs) + n)) buffer count p out) ≡ map said damage ++ map whole (f ∷ fs))
read_behind d f fs p buffer count out lent before s =
    let r = behind d (put_all [] (f ∷ fs)) p buffer count out lent (flag_first f fs) before in (
      r.damage,
      r.first,
      λ n. let t : List Reading = reads (length (f ∷ fs) + n) (put_all [] (f ∷ fs)) 0 in
          ap (map said) (r.then (length (f ∷ fs) + n))
          ∙ map-append said r.damage (map (later_call (length d)) (map call_of t))
          ∙ ap (λ (l : List (ℕ × List ℕ)). map said r.damage ++ l)
          (map-map said (later_call (length d)) (map call_of t) ∙ map-map (λ c. said (later_call (length d) c)) call_of t ∙ reads_back (f ∷ fs) n s),
    )
