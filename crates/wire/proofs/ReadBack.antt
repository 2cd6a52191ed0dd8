-- Request A4: what is written on a line begun empty reads back as the same frames, with nothing between.
use Prim.Native.Nat.{ℕ, zero, suc, ◌+◌, ◌≤◌, ◌<◌}
use mathlib.Core.Path.{◌≡◌, refl, sym, ap, ◌∙◌}
use mathlib.Core.Bool.{Bool, true, false, ◌||◌}
use mathlib.Core.List.{List, [], ◌∷◌, ◌++◌, map, append_assoc, append-nil}
use mathlib.Core.Option.{Option, none, some}
use native.Mathlib.Nat.{suc-add}
use native.Mathlib.Omega.{arith}
use lib.Dec.{ltb}
use borrow.Author.Tests.{ltb-false}
use lib.ListN.{length, length-append}
use Rattle.octets.proofs.BoolLaws.{or_false}
use Rattle.refusals.specs.Refusals.{refusal1}
use Rattle.refusals.proofs.RefusalLaws.{refuse_zero}
use Rattle.bits.specs.Bits.{bits}
use Rattle.bits.proofs.BitLaws.{length_bits}
use Rattle.bits.specs.Places.{begins, until}
use Rattle.zeros.specs.Zeros.{stuff}
use Rattle.line.specs.Line.{flag, put, next, begin, reading, Reading}
use Rattle.wire.proofs.Readings.{reads}
use Rattle.wire.specs.Wire.{put_all, Frame, Frames, whole}
use Rattle.wire.proofs.LineLaws.{stuff_long, stuff_calm, next_calm, closed_frame, next_end}

pub reads_none : (n : ℕ) (line : List Bool) (p : ℕ) → next line p ≡ none → reads n line p ≡ []
unfolding reads
reads_none zero line p h = refl
reads_none (suc n) line p h = rw (h, reads)

pub reads_some : (n : ℕ) (line : List Bool) (p : ℕ) (r : Reading) → next line p ≡ some r → reads (suc n) line p ≡ r ∷ reads n line r.place
unfolding reads
reads_some n line p r h = rw (h, reads)

-- what a reading says, its place aside
abbrev pub says : Reading → ℕ × List ℕ
says r = (r.refusal, r.frame)

-- what the frames put behind a flag
abbrev pub rest : List (List ℕ) → List Bool
rest [] = []
rest (f ∷ fs) = stuff 4 (bits f) ++ (flag ++ rest fs)

pub put_all_more : (b : Bool) (line : List Bool) (fs : List (List ℕ)) → put_all (b ∷ line) fs ≡ (b ∷ line) ++ rest fs
unfolding put_all put
put_all_more b line [] = sym (append-nil (b ∷ line))
put_all_more b line (f ∷ fs) =
    put_all_more b (line ++ (stuff 4 (bits f) ++ flag)) fs
    ∙ append_assoc (b ∷ line) (stuff 4 (bits f) ++ flag) (rest fs)
    ∙ ap (λ (l : List Bool). (b ∷ line) ++ l) (append_assoc (stuff 4 (bits f)) flag (rest fs))

long : (f : List ℕ) → refusal1 (length f) ≡ 0 → 0 < length (stuff 4 (bits f))
long f h =
    let t : 10 ≤ length f = ltb-false _ _ (or_false _ _ (refuse_zero (ltb (length f) 10 || ltb 490 (length f)) 0 h)).0 in
    omega (arith, stuff_long 4 (bits f), length_bits f)

-- one frame between two flags, the first at the end of a
next_frame : (a t : List Bool) (f : List ℕ) → Frame f
    → next (a ++ (flag ++ (stuff 4 (bits f) ++ (flag ++ t)))) (length a) ≡ some (record { refusal = 0; frame = f; place = length a + 8 + length (stuff 4 (bits f)) })
next_frame a t f h =
    next_calm a (stuff 4 (bits f)) t (stuff_calm 4 (bits f)) (long f h.size)
    ∙ ap {B = Option Reading} some (closed_frame (length a + 8 + length (stuff 4 (bits f))) t f h.size h.octet)

read_rest : (fs : List (List ℕ)) (a : List Bool) (n : ℕ) → Frames fs → map says (reads (length fs + n) (a ++ (flag ++ rest fs)) (length a)) ≡ map whole fs
read_rest [] a n h = rw (reads_none (0 + n) (a ++ flag) (length a) (next_end a))
read_rest (f ∷ fs) a n h =
    let c : List Bool = stuff 4 (bits f) in
    let b : List Bool = a ++ (flag ++ c) in
    let lb : length b ≡ length a + 8 + length c = length-append a (flag ++ c) ∙ omega (arith, length-append flag c) in
    let e : a ++ (flag ++ (c ++ (flag ++ rest fs))) ≡ b ++ (flag ++ rest fs) = sym (append_assoc a (flag ++ c) (flag ++ rest fs)) in
    rw (suc-add (length fs) n, reads_some (length fs + n) (a ++ (flag ++ (c ++ (flag ++ rest fs)))) (length a) _ (next_frame a (rest fs) f h.0))
    (ap (λ (l : List (ℕ × List ℕ)). (0, f) ∷ l) (rw (e, ← lb) (read_rest fs b n h.1)))

-- however many more readings are asked for, they give the frames and nothing else
pub reads_back : (fs : List (List ℕ)) (n : ℕ) → Frames fs → map says (reads (length fs + n) (put_all [] fs) 0) ≡ map whole fs
unfolding put_all put next begin reading until begins
reads_back [] n h = rw (reads_none (0 + n) [] 0 refl)
reads_back (f ∷ fs) n h =
    rw (put_all_more false (true ∷ true ∷ true ∷ true ∷ true ∷ true ∷ false ∷ (stuff 4 (bits f) ++ flag)) fs, append_assoc (stuff 4 (bits f)) flag (rest fs))
    (read_rest (f ∷ fs) [] n h)
