-- A tray cut in two at a record's end: the second half, given the room that is left, makes up the same octets and the same list.
use Prim.Native.Nat.{ℕ, zero, suc, ◌+◌, ◌-◌, ◌*◌, ◌≤◌, ◌<◌}
use mathlib.Core.Path.{◌≡◌, refl, sym, ap, ap₂, ◌∙◌}
use mathlib.Core.Bool.{Bool, true, false}
use mathlib.Core.List.{List, [], ◌∷◌, ◌++◌, append_assoc, append-nil}
use native.Mathlib.Omega.{arith}
use lib.ListN.{length, get_or, take, drop, length-append, length-drop, get_or-append}
use lib.Seq.{take-append-le, drop-append-le, drop-append-add, drop-drop, drop-length}
use Rattle.octets.specs.Records.{following, kind}
use Rattle.tray.specs.Tray.{whole, frame, Read, with_frame, read_past, read, tray_refusal, records_of, frame_refusal, sent_on, passed, numbers, outgoing, tray_answer, tray_buffer, tray_list, Forwarded}
use Rattle.tray.proofs.ReadLaws.{Whole, whole_known, whole_made, read_whole, read_none}
use Rattle.tray.proofs.RunLaws.{records_append}
use Rattle.tray.proofs.CallLaws.{whole_tray, tray_whole, done_answer, done_buffer, done_list}
use Rattle.tray.proofs.TrayLaws.{one_each, written_octets}

-- a record that is there is the same with more behind it
module _ (a b : List ℕ) (w : whole a ≡ true) where
  known : Whole a
  known = whole_known a w

  same_octet : (i : ℕ) → i < 4 → get_or (a ++ b) i 0 ≡ get_or a i 0
  same_octet i h = get_or-append a b 0 i (omega (arith, known.long, known.here))

  same_following : following (a ++ b) ≡ following a
  same_following = ap₂ (λ (x y : ℕ). x + 256 * y) (same_octet 0 (omega arith)) (same_octet 1 (omega arith))

  same_kind : kind (a ++ b) ≡ kind a
  same_kind = ap₂ (λ (x y : ℕ). x + 256 * y) (same_octet 2 (omega arith)) (same_octet 3 (omega arith))

  same_frame : frame (a ++ b) ≡ frame a
  unfolding frame
  same_frame =
      ap₂ (λ (n : ℕ) (l : List ℕ). take (n - 2) l) same_following (drop-append-le 4 a b (omega (arith, known.long, known.here)))
      ∙ take-append-le (following a - 2) (drop 4 a) b (omega (arith, length-drop 4 a, known.here))

  read_more : read (a ++ b) ≡ with_frame (frame a) (read (drop (2 + following a) a ++ b))
  read_more =
      read_whole (a ++ b) (whole_made (a ++ b) (record { of_kind = same_kind ∙ known.of_kind; long = omega (arith, same_following, known.long); here = omega (arith, same_following, known.here, length-append a b) }))
      ∙ ap₂ (λ (g r : List ℕ). with_frame g (read r)) same_frame (ap (λ (n : ℕ). drop (2 + n) (a ++ b)) same_following ∙ drop-append-le (2 + following a) a b known.here)

-- the two read one behind the other
abbrev both : Read → Read → Read
both s t = record { frames = s.frames ++ t.frames; left = t.left }

-- by the octets of the first
cut_within : (n : ℕ) (a b : List ℕ) → length a ≤ n → (read a).left ≡ [] → read (a ++ b) ≡ both (read a) (read b)
unfolding read_past
cut_within zero a b l h = go a l where
  go : (a : List ℕ) → length a ≤ 0 → read (a ++ b) ≡ both (read a) (read b)
  go [] l = refl
  go (x ∷ a) l = absurd (omega arith)
cut_within (suc n) a b l h =
    go (whole a) refl
    (λ w.
    let k = whole_known a w in
    cut_within n (drop (2 + following a) a) b (omega (arith, length-drop (2 + following a) a, k.here)) (ap (λ (r : Read). r.left) (sym (read_whole a w)) ∙ h))
  where
    go : (v : Bool) → whole a ≡ v
        → (whole a ≡ true → read (drop (2 + following a) a ++ b) ≡ both (read (drop (2 + following a) a)) (read b))
        → read (a ++ b) ≡ both (read a) (read b)
    go true w ih = read_more a b w ∙ ap (with_frame (frame a)) (ih w) ∙ ap (λ (r : Read). both r (read b)) (sym (read_whole a w))
    go false w ih =
        let z : a ≡ [] = ap (λ (r : Read). r.left) (sym (read_none a w)) ∙ h in
        ap (λ (x : List ℕ). read (x ++ b)) z ∙ ap (λ (r : Read). both r (read b)) (sym (read_none a w))

pub cut_read : (a b : List ℕ) → (read a).left ≡ [] → read (a ++ b) ≡ both (read a) (read b)
cut_read a b h = cut_within (length a) a b (omega arith) h

module _ (level wait addr : ℕ) where
  -- the fold over two lists of frames: the second with the room that the first leaves
  cut_passed : (fs gs : List (List ℕ)) (room k : ℕ) → k ≡ room - length (records_of (passed level wait addr fs room).sent)
      → ((passed level wait addr (fs ++ gs) room).refusals ≡ (passed level wait addr fs room).refusals ++ (passed level wait addr gs k).refusals)
      × ((passed level wait addr (fs ++ gs) room).sent ≡ (passed level wait addr fs room).sent ++ (passed level wait addr gs k).sent)
  unfolding passed records_of
  cut_passed [] gs room k e =
      let r : room ≡ k = omega (arith, e) in
      (ap (λ (n : ℕ). (passed level wait addr gs n).refusals) r, ap (λ (n : ℕ). (passed level wait addr gs n).sent) r)
  cut_passed (f ∷ fs) gs room k e =
      let s : List (List ℕ) = sent_on level wait addr f room in
      let n : ℕ = room - length (records_of s) in
      let p : List (List ℕ) = (passed level wait addr fs n).sent in
      let r : k ≡ n - length (records_of p) = omega (arith, e, ap length (records_append s p), length-append (records_of s) (records_of p)) in
      let ih = cut_passed fs gs n k r in
      (ap (λ (l : List ℕ). frame_refusal level wait addr f room ∷ l) ih.0, ap (λ (l : List (List ℕ)). s ++ l) ih.1 ∙ sym (append_assoc s p (passed level wait addr gs k).sent))

  -- each with a list of its own, the first with one place for each record
  module _ (a b out ns ms : List ℕ) (za : tray_refusal a (length ns) ≡ 0) (zb : tray_refusal b (length ms) ≡ 0) (exact : length ns ≡ length (read a).frames) where
    abbrev first : List ℕ
    first = outgoing level wait addr a (length out)

    abbrev rest : List ℕ
    rest = drop (length first) out

    cut_both : tray_refusal (a ++ b) (length (ns ++ ms)) ≡ 0
    cut_both =
        let c = cut_read a b (tray_whole a (length ns) za).0 in
        let t = tray_whole b (length ms) zb in
        whole_tray (a ++ b) (length (ns ++ ms)) (ap (λ (r : Read). r.left) c ∙ t.0)
        (omega (arith, ap (λ (r : Read). length r.frames) c, length-append (read a).frames (read b).frames, length-append ns ms, t.1))

    cut_octets : outgoing level wait addr (a ++ b) (length out) ≡ first ++ outgoing level wait addr b (length rest)
    cut_octets =
        ap (λ (r : Read). records_of (passed level wait addr r.frames (length out)).sent) (cut_read a b (tray_whole a (length ns) za).0)
        ∙ ap records_of (cut_passed (read a).frames (read b).frames (length out) (length rest) (length-drop (length first) out)).1
        ∙ records_append (passed level wait addr (read a).frames (length out)).sent _

    cut_refusals : numbers level wait addr (a ++ b) (length out) ≡ numbers level wait addr a (length out) ++ numbers level wait addr b (length rest)
    cut_refusals =
        ap (λ (r : Read). (passed level wait addr r.frames (length out)).refusals) (cut_read a b (tray_whole a (length ns) za).0)
        ∙ (cut_passed (read a).frames (read b).frames (length out) (length rest) (length-drop (length first) out)).0

    written_first : (tray_answer level wait addr a out ns).written ≡ length first
    written_first = ap (λ (r : Forwarded). r.written) (done_answer level wait addr a out ns za)

    rest_of : drop (tray_answer level wait addr a out ns).written out ≡ rest
    rest_of = ap (λ (k : ℕ). drop k out) written_first

    pub cut_buffer : tray_buffer level wait addr (a ++ b) out (ns ++ ms)
        ≡ take (tray_answer level wait addr a out ns).written (tray_buffer level wait addr a out ns)
        ++ tray_buffer level wait addr b (drop (tray_answer level wait addr a out ns).written out) ms
    cut_buffer =
        let y : List ℕ = outgoing level wait addr b (length rest) in
        done_buffer level wait addr (a ++ b) out (ns ++ ms) cut_both ∙ ap (λ (l : List ℕ). l ++ drop (length l) out) cut_octets
        ∙ append_assoc first y (drop (length (first ++ y)) out)
        ∙ ap (λ (l : List ℕ). first ++ (y ++ l)) (ap (λ (k : ℕ). drop k out) (length-append first y) ∙ sym (drop-drop (length y) (length first) out))
        ∙ ap (λ (l : List ℕ). first ++ l) (sym (done_buffer level wait addr b rest ms zb))
        ∙ ap₂ (λ (l o : List ℕ). l ++ tray_buffer level wait addr b o ms) (sym (written_octets level wait addr a out ns za)) (sym rest_of)

    pub cut_list : tray_list level wait addr (a ++ b) out (ns ++ ms)
        ≡ tray_list level wait addr a out ns ++ tray_list level wait addr b (drop (tray_answer level wait addr a out ns).written out) ms
    cut_list =
        let x : List ℕ = numbers level wait addr a (length out) in
        let y : List ℕ = numbers level wait addr b (length rest) in
        let k : length x ≡ length ns = one_each level wait addr (read a).frames (length out) ∙ sym exact in
        let e : drop (length (x ++ y)) (ns ++ ms) ≡ drop (length y) ms =
        ap (λ (i : ℕ). drop i (ns ++ ms)) (length-append x y ∙ ap (λ (i : ℕ). i + length y) k) ∙ drop-append-add ns ms (length y) in
        let all : tray_list level wait addr a out ns ≡ x =
        done_list level wait addr a out ns za ∙ ap (λ (l : List ℕ). x ++ l) (ap (λ (i : ℕ). drop i ns) k ∙ drop-length ns) ∙ append-nil x in
        done_list level wait addr (a ++ b) out (ns ++ ms) cut_both ∙ ap (λ (l : List ℕ). l ++ drop (length l) (ns ++ ms)) cut_refusals
        ∙ ap (λ (l : List ℕ). (x ++ y) ++ l) e ∙ append_assoc x y (drop (length y) ms)
        ∙ ap₂ (λ (p q : List ℕ). p ++ q) (sym all) (sym (done_list level wait addr b rest ms zb) ∙ ap (λ (o : List ℕ). tray_list level wait addr b o ms) (sym rest_of))

    pub cut_answer : tray_answer level wait addr (a ++ b) out (ns ++ ms) ≡ record {
      refusal = 0;
      records = (tray_answer level wait addr a out ns).records + (tray_answer level wait addr b (drop (tray_answer level wait addr a out ns).written out) ms).records;
      written = (tray_answer level wait addr a out ns).written + (tray_answer level wait addr b (drop (tray_answer level wait addr a out ns).written out) ms).written;
    }
    cut_answer =
        let p = done_answer level wait addr a out ns za in
        let q = ap (λ (o : List ℕ). tray_answer level wait addr b o ms) rest_of ∙ done_answer level wait addr b rest ms zb in
        let c = ap (λ (r : Read). length r.frames) (cut_read a b (tray_whole a (length ns) za).0) ∙ length-append (read a).frames (read b).frames in
        let o = ap length cut_octets ∙ length-append first (outgoing level wait addr b (length rest)) in
        done_answer level wait addr (a ++ b) out (ns ++ ms) cut_both
        ∙ ap₂ (λ (i j : ℕ). record { refusal = 0; records = i; written = j })
        (c ∙ ap₂ (λ (r s : Forwarded). r.records + s.records) (sym p) (sym q))
        (o ∙ ap₂ (λ (r s : Forwarded). r.written + s.written) (sym p) (sym q))
