-- One frame's record: the node's call on the part of the buffer behind the record's four octets.
use Rattle.std.specs.Prelude.{Result, Ok, Err}
use Rattle.std.specs.Result.{result_unwrap_or}
use Prim.Native.Nat.{ℕ, zero, suc, ◌+◌, ◌-◌, ◌≤◌, min}
use mathlib.Core.Path.{◌≡◌, refl, sym, ap, ◌∙◌}
use mathlib.Core.Bool.{Bool, true, false}
use mathlib.Core.List.{List, ◌++◌}
use native.Mathlib.Omega.{arith}
use lib.Dec.{leb}
use lib.ListN.{length, take, drop, length-append, length-drop, drop_of_length-le, take-append-drop}
use lib.Seq.{drop_at, drop-drop, length-take-le}
use borrow.Author.Tests.{leb-true, leb-false}
use borrow.Rule.Slice.PartMut.{mid_of, put_mid}
use Rattle.octets.proofs.PartLaws.{tail_of, tail_put}
use Rattle.refusals.specs.Refusals.{refusal_of}
use Rattle.refusals.specs.declared.Refusal.{Refusal}
use Rattle.onward.specs.Onward.{onward}
use Rattle.onward.specs.Sent.{Sent, sent_answer, sent_buffer, sent_paper}
use Rattle.onward.proofs.SentLaws.{answer_done, buffer_done}
use Rattle.onward.proofs.OnwardLaws.{onward_length}
use Rattle.node.specs.Node.{forward_refusal, forward_answer, forward_buffer}
use Rattle.node.proofs.ForwardLaws.{forwarded}
use Rattle.tray.specs.Tray.{record_head, record_of, frame_refusal}
use Rattle.tray.proofs.ReadLaws.{record_length}

-- the number and the length of a result
pub told_refusal : (r : Result ℕ Refusal) → refusal_of r ≡ (sent_paper r).refusal
unfolding sent_paper
told_refusal (Ok n) = refl
told_refusal (Err r) = refl

pub told_length : (r : Result ℕ Refusal) → result_unwrap_or r 0 ≡ (sent_paper r).length
unfolding sent_paper
told_length (Ok n) = refl
told_length (Err r) = refl

-- what an answer tells: refused, it is the same whatever would have been written
known_refused : (q : ℕ) (w v out : List ℕ) (s : Sent) → s ≡ sent_answer q w → (s.refusal ≡ 0 → ⊥) → (s ≡ sent_answer q v) × (sent_buffer q w out ≡ out) × (out ≡ sent_buffer q v out)
unfolding sent_answer sent_buffer
known_refused zero w v out s e h = absurd (h (ap (λ (x : Sent). x.refusal) e))
known_refused (suc q) w v out s e h = (e, refl, refl)

known_taken : (q : ℕ) (w out : List ℕ) (s : Sent) → s ≡ sent_answer q w → s.refusal ≡ 0 → (q ≡ 0) × (s.length ≡ length w) × (sent_buffer q w out ≡ w ++ drop (length w) out)
unfolding sent_answer sent_buffer
known_taken zero w out s e h = (refl, ap (λ (x : Sent). x.length) e, refl)
known_taken (suc q) w out s e h = let z : suc q ≡ 0 = sym (ap (λ (x : Sent). x.refusal) e) ∙ h in absurd (omega arith)

-- where the part behind the four octets begins, and what it is
from_four : (out : List ℕ) → drop (min (length out) 4) out ≡ drop 4 out
from_four out = go (leb 4 (length out)) refl where
  go : (v : Bool) → leb 4 (length out) ≡ v → drop (min (length out) 4) out ≡ drop 4 out
  go true e = let k : min (length out) 4 ≡ 4 = omega (arith, leb-true 4 (length out) e) in ap (λ (n : ℕ). drop n out) k
  go false e =
      let s = leb-false 4 (length out) e in
      drop_of_length-le out {i = min (length out) 4} (omega (arith, s)) ∙ sym (drop_of_length-le out {i = 4} (omega (arith, s)))

-- where a frame is taken there is room for its record
pub record_fits : (level wait addr : ℕ) (f : List ℕ) (room : ℕ) → frame_refusal level wait addr f room ≡ 0 → 4 + length (onward level wait addr f) ≤ room
unfolding frame_refusal
record_fits level wait addr f room h = omega (arith, (forwarded level wait addr f (room - 4) h).roomy, onward_length level wait addr f)

module _ (level wait addr : ℕ) (f out : List ℕ) (start : ℕ) (es : start ≡ min (length out) 4) (sent : Sent) (p : List ℕ)
    (ea : sent ≡ forward_answer level wait addr f (mid_of start (length out - start) out))
    (eb : p ≡ forward_buffer level wait addr f (mid_of start (length out - start) out)) where
  part : mid_of start (length out - start) out ≡ drop 4 out
  part = tail_of start out ∙ ap (λ (n : ℕ). drop n out) es ∙ from_four out

  answer : sent ≡ sent_answer (frame_refusal level wait addr f (length out)) (onward level wait addr f)
  unfolding forward_answer frame_refusal
  answer = ea ∙ ap (forward_answer level wait addr f) part ∙ ap (λ (n : ℕ). sent_answer (forward_refusal level wait addr f n) (onward level wait addr f)) (length-drop 4 out)

  buffer : p ≡ sent_buffer (frame_refusal level wait addr f (length out)) (onward level wait addr f) (drop 4 out)
  unfolding forward_buffer frame_refusal
  buffer = eb ∙ ap (forward_buffer level wait addr f) part ∙ ap (λ (n : ℕ). sent_buffer (forward_refusal level wait addr f n) (onward level wait addr f) (drop 4 out)) (length-drop 4 out)

  back : put_mid start (length out - start) out p ≡ take start out ++ p
  back = tail_put start out p (omega arith)

  pub record_refused : (sent.refusal ≡ 0 → ⊥)
      → (sent ≡ sent_answer (frame_refusal level wait addr f (length out)) (record_of (onward level wait addr f)))
      × (put_mid start (length out - start) out p ≡ sent_buffer (frame_refusal level wait addr f (length out)) (record_of (onward level wait addr f)) out)
  record_refused h =
      let k = known_refused (frame_refusal level wait addr f (length out)) (onward level wait addr f) (record_of (onward level wait addr f)) (drop 4 out) sent answer h in
      let u = known_refused (frame_refusal level wait addr f (length out)) (onward level wait addr f) (record_of (onward level wait addr f)) out sent answer h in
      (k.0, back ∙ ap (λ (l : List ℕ). take start out ++ l) (buffer ∙ k.1 ∙ sym (from_four out) ∙ ap (λ (n : ℕ). drop n out) (sym es)) ∙ take-append-drop start out ∙ u.2)

  module _ (h : sent.refusal ≡ 0) where
    taken : (frame_refusal level wait addr f (length out) ≡ 0) × (sent.length ≡ length (onward level wait addr f))
        × (sent_buffer (frame_refusal level wait addr f (length out)) (onward level wait addr f) (drop 4 out) ≡ onward level wait addr f ++ drop (length (onward level wait addr f)) (drop 4 out))
    taken = known_taken (frame_refusal level wait addr f (length out)) (onward level wait addr f) (drop 4 out) sent answer h

    whole_part : put_mid start (length out - start) out p ≡ take start out ++ (onward level wait addr f ++ drop (length (onward level wait addr f)) (drop 4 out))
    whole_part = back ∙ ap (λ (l : List ℕ). take start out ++ l) (buffer ∙ taken.2)

    starts : (4 + sent.length ≤ length out) × (length (take start out) ≡ 4)
    starts =
        let r = record_fits level wait addr f (length out) taken.0 in
        (omega (arith, r, taken.1), length-take-le start out (omega (arith, r, es)) ∙ omega (arith, r, es))

    pub record_room : 4 + sent.length ≤ length out
    record_room = starts.0

    pub head_room : 4 + sent.length ≤ length (put_mid start (length out - start) out p)
    head_room =
        let g : List ℕ = onward level wait addr f in
        omega (arith, ap length whole_part, length-append (take start out) (g ++ drop (length g) (drop 4 out)), length-append g (drop (length g) (drop 4 out)), starts.1, taken.1)

    pub record_done : (x : List ℕ) → x ≡ record_head sent.length ++ drop 4 (put_mid start (length out - start) out p)
        → (record { refusal = 0; length = sent.length + 4 } ≡ sent_answer (frame_refusal level wait addr f (length out)) (record_of (onward level wait addr f)))
        × (x ≡ sent_buffer (frame_refusal level wait addr f (length out)) (record_of (onward level wait addr f)) out)
    unfolding record_of
    record_done x ex =
        let g : List ℕ = onward level wait addr f in
        let q : ℕ = frame_refusal level wait addr f (length out) in
        let n : sent.length + 4 ≡ length (record_of g) = omega (arith, record_length g, taken.1) in
        let m : 4 + length g ≡ sent.length + 4 = omega (arith, taken.1) in
        let behind : drop 4 (put_mid start (length out - start) out p) ≡ g ++ drop (sent.length + 4) out =
        ap (drop 4) whole_part ∙ drop_at (take start out) (g ++ drop (length g) (drop 4 out)) 4 starts.1
        ∙ ap (λ (l : List ℕ). g ++ l) (drop-drop (length g) 4 out ∙ ap (λ (i : ℕ). drop i out) m) in
        let holds : x ≡ record_of g ++ drop (sent.length + 4) out =
        ex ∙ ap (λ (l : List ℕ). record_head sent.length ++ l) behind ∙ ap (λ (i : ℕ). record_head i ++ (g ++ drop (sent.length + 4) out)) taken.1 in
        (answer_done q q (sent.length + 4) (record_of g) refl taken.0 n, buffer_done q q (sent.length + 4) (record_of g) refl taken.0 n out x holds)
