-- Laws of the voice frame (t is the coding type, n the noise): what is known of a call that is not refused, how long its frame is, that it passes every check, and its fields.
use Prim.Native.Nat.{ℕ, ◌+◌, ◌-◌, ◌*◌, ◌/◌, ◌%◌, min, ◌≤◌, ◌<◌}
use mathlib.Core.Path.{◌≡◌, refl, ap, ap₂, sym, ◌∙◌}
use mathlib.Core.Bool.{Bool, true, false}
use mathlib.Core.List.{List, [], ◌∷◌, ◌++◌}
use native.Mathlib.Nat.{le_refl}
use native.Mathlib.Omega.{arith}
use lib.Dec.{ltb}
use lib.ListN.{length, take, drop, length-append}
use lib.Seq.{take-append-le, take_at, drop_at, drop-drop}
use borrow.Author.Tests.{ltb-false, le-ltb, not-false}
use Rattle.octets.proofs.BoolLaws.{or_false}
use Rattle.refusals.specs.Refusals.{◌or_else◌, address_bad, refusal10, refusal12, refusal15, refusal16}
use Rattle.refusals.proofs.RefusalLaws.{or_else_zero, refuse_zero, in_range, refused_is, done_is}
use Rattle.fcs.specs.Fcs.{fcs_octets}
use Rattle.coding.specs.Coding.{sample_bits, droppable_bits, frame_length, reserved, refusal6}
use Rattle.coding.proofs.CodingLaws.{s_le_8, d_le_3, not_reserved}
use Rattle.blocks.specs.Blocks.{field, packed, samples_fit, refusal11}
use Rattle.blocks.proofs.BlocksLaws.{length_field, field_prefix}
use Rattle.frame.specs.Fields.{is_voice, field_m, field_c, stamp, more_bit, coding, sequence, noise}
use Rattle.frame.proofs.FrameLaws.{Passes}
use Rattle.onward.specs.Onward.{stamp_after, dropped, onward_head, onward_field, framed, onward}
use Rattle.onward.proofs.SentLaws.{answer_refused, buffer_refused, answer_done, buffer_done}
use Rattle.onward.proofs.OnwardLaws.{framed_length, onward_length, onward_C, onward_M, closed, sealed_behind}
use Rattle.origin.specs.declared.Step.{Step}
use Rattle.origin.specs.Burst.{refusal13, refusal14, sequence_sent, more_sent, sseq_set, sseq_after}
use Rattle.origin.proofs.MadeLaws.{made_linked}
use Rattle.origin.proofs.BurstLaws.{sequence_le, more_le, kept_le}
use Rattle.origin.specs.Send.{made_head, made, send_written, send_refusal, send_answer, send_buffer, send_sseq}

-- the first of an order, each part by its definition
pub or_else_is : {r a b x y : ℕ} → r ≡ a or_else b → a ≡ x → b ≡ y → r ≡ x or_else y
or_else_is e p q = e ∙ ap₂ ◌or_else◌ p q

-- the blocks packed behind octets 1 to 8, and the rest as it came
packed_in : (H O x xs : List ℕ) (S k : ℕ) → length H ≡ 8 → x ≡ H ++ drop 8 O → packed x xs S k ≡ H ++ field xs S k ++ drop (8 + 16 * k) O
packed_in H O x xs S k l e =
    let t : take 8 x ≡ H = ap (take 8) e ∙ take_at H (drop 8 O) 8 l in
    let d : drop (8 + 16 * k) x ≡ drop (8 + 16 * k) O =
    sym (drop-drop (16 * k) 8 x) ∙ ap (drop (16 * k)) (ap (drop 8) e ∙ drop_at H (drop 8 O) 8 l) ∙ drop-drop (16 * k) 8 O in
    rw (t, d)

-- an address in range is one of 13 bits
pub inside_low : (a : ℕ) → address_bad a ≡ false → a < 8192
inside_low a h = let r = in_range a h in omega arith

-- ---- the frame as it is made

pub head_eight : (addr t more seq n : ℕ) (x : List ℕ) → x ≡ made_head addr t more seq n → 8 ≤ length x
unfolding made_head
head_eight addr t more seq n x e = rw e (le_refl 8)

-- octet 5 with one number of at most 3 as M and as C
twice_M : (d : ℕ) → d ≤ 3 → (d * 16 + d) / 16 % 4 ≡ d
twice_M d h =
    let q : (d * 16 + d) / 16 ≡ d = omega arith in
    rw q (omega arith)

twice_C : (d : ℕ) → d ≤ 3 → (d * 16 + d) % 4 ≡ d
twice_C d h = omega arith

type_of : (more t : ℕ) → t < 32 → (more * 128 + t) % 32 ≡ t
type_of more t h = omega arith

more_of : (more t : ℕ) → more ≤ 1 → t < 32 → (more * 128 + t) / 128 % 2 ≡ more
more_of more t hm ht =
    let q : (more * 128 + t) / 128 ≡ more = omega arith in
    rw q (omega arith)

upper_of : (seq n : ℕ) → seq ≤ 15 → n ≤ 15 → (seq * 16 + n) / 16 % 16 ≡ seq
upper_of seq n hs hn =
    let q : (seq * 16 + n) / 16 ≡ seq = omega arith in
    rw q (omega arith)

lower_of : (seq n : ℕ) → n ≤ 15 → (seq * 16 + n) % 16 ≡ n
lower_of seq n h = omega arith

-- the blocks that are left where d of S are dropped from the end
field_kept : (xs t : List ℕ) (S d n : ℕ) → n ≡ 16 * (S - d) → take n (field xs S S ++ t) ≡ field xs S (S - d)
field_kept xs t S d n e =
    rw e (take-append-le (16 * (S - d)) (field xs S S) t (omega (arith, length_field xs S S)) ∙ field_prefix xs S (S - d) S (omega arith))

module _ (addr t more seq n : ℕ) (samples : List ℕ) where
  pub made_length : length (made addr t more seq n samples) ≡ 16 * sample_bits t + 10
  unfolding made made_head
  made_length =
      framed_length (made_head addr t more seq n) (field samples (sample_bits t) (sample_bits t))
      ∙ omega (arith, length_field samples (sample_bits t) (sample_bits t))

  pub made_M : field_m (made addr t more seq n samples) ≡ droppable_bits t
  unfolding made made_head framed
  made_M = twice_M (droppable_bits t) (d_le_3 t)

  pub made_C : field_c (made addr t more seq n samples) ≡ droppable_bits t
  unfolding made made_head framed
  made_C = twice_C (droppable_bits t) (d_le_3 t)

  pub made_dropped : (level : ℕ) → dropped level (made addr t more seq n samples) ≡ min (droppable_bits t) level
  unfolding dropped
  made_dropped level = ap (λ (c : ℕ). min c level) made_C

  -- the voice field that is left once the origin has dropped
  pub written_field : (level : ℕ) → onward_field level (made addr t more seq n samples)
      ≡ field samples (sample_bits t) (sample_bits t - min (droppable_bits t) level)
  unfolding onward_field made made_head framed
  written_field level =
      field_kept samples (fcs_octets (made_head addr t more seq n)) (sample_bits t) (min (droppable_bits t) level)
      (length (made addr t more seq n samples) - 10 - 16 * dropped level (made addr t more seq n samples))
      (omega (arith, made_length, made_dropped level))

  made_sent_length : (level wait : ℕ) → length (onward level wait addr (made addr t more seq n samples))
      ≡ 16 * (sample_bits t - min (droppable_bits t) level) + 10
  made_sent_length level wait =
      onward_length level wait addr (made addr t more seq n samples) ∙ omega (arith, made_length, made_dropped level)

  -- it passes every check of a node
  module _ (inside : address_bad addr ≡ false) (known : reserved t ≡ false) where
    pub made_type : coding (made addr t more seq n samples) ≡ t
    unfolding made made_head framed
    made_type = type_of more t (not_reserved t known).1

    pub made_passes : Passes (made addr t more seq n samples)
    unfolding made made_head framed
    made_passes =
        let none : field_m (made addr t more seq n samples) - field_c (made addr t more seq n samples) ≡ 0 = omega (arith, made_M, made_C) in
        record {
          linked = made_linked addr 239 (droppable_bits t * 16 + droppable_bits t) (more * 128 + t) (seq * 16 + n) (field samples (sample_bits t) (sample_bits t))
              inside (omega (arith, length_field samples (sample_bits t) (sample_bits t), s_le_8 t)) refl refl refl;
          coded = ap reserved made_type ∙ known;
          laid = record {
            m_is_d = made_M ∙ sym (ap droppable_bits made_type);
            c_le_m = omega (arith, made_M, made_C);
            size = made_length ∙ sym (ap (λ (k : ℕ). frame_length k (field_m (made addr t more seq n samples) - field_c (made addr t more seq n samples))) made_type ∙ ap (frame_length t) none ∙ rw known (omega arith));
            stamped = omega arith;
          };
        }

-- ---- what is known of a call that is not refused, both ways

pub record SendTaken (sseq : ℕ) (step : Step) (t n : ℕ) (samples : List ℕ) (level wait addr room : ℕ) : Type 0 where
  pub in_record : sseq ≤ 15
  pub in_turn_lem : refusal13 step sseq ≡ 0
  pub known : reserved t ≡ false
  pub quiet : n ≤ 15
  pub fit : samples_fit samples (sample_bits t) ≡ true
  pub low : level ≤ 3
  pub inside : address_bad addr ≡ false
  pub enough : length (send_written sseq step t n samples level wait addr) ≤ room

module _ (sseq : ℕ) (step : Step) (t n : ℕ) (samples : List ℕ) (level wait addr : ℕ) where
  pub send_taken : (room : ℕ) → send_refusal sseq step t n samples level wait addr room ≡ 0
      → SendTaken sseq step t n samples level wait addr room
  unfolding send_refusal
  send_taken room h =
      let q14 = or_else_zero _ _ h in
      let q13 = or_else_zero _ _ q14.1 in
      let q6 = or_else_zero _ _ q13.1 in
      let q12 = or_else_zero _ _ q6.1 in
      let q11 = or_else_zero _ _ q12.1 in
      let q10 = or_else_zero _ _ q11.1 in
      let q15 = or_else_zero _ _ q10.1 in
      record {
        in_record = ltb-false _ _ (refuse_zero _ 13 q14.0);
        in_turn_lem = q13.0;
        known = refuse_zero _ 5 q6.0;
        quiet = ltb-false _ _ (or_false (ltb 15 n) (ltb 1 0) (refuse_zero _ 11 q12.0)).0;
        fit = not-false _ (refuse_zero _ 10 q11.0);
        low = ltb-false _ _ (refuse_zero _ 9 q10.0);
        inside = refuse_zero _ 14 q15.0;
        enough = ltb-false _ _ (refuse_zero _ 15 q15.1);
      }

  pub taken_send : (room : ℕ) → SendTaken sseq step t n samples level wait addr room
      → send_refusal sseq step t n samples level wait addr room ≡ 0
  unfolding send_refusal
  taken_send room t =
      simp (le-ltb _ _ t.in_record, t.in_turn_lem, t.known, le-ltb _ _ t.quiet, t.fit, le-ltb _ _ t.low, t.inside, le-ltb _ _ t.enough)

  -- SSEQ after a call: in range whatever is refused, and where nothing is, what the fold of one step gives
  pub sseq_le : (room : ℕ) → sseq ≤ 15 → send_sseq sseq step t n samples level wait addr room ≤ 15
  unfolding send_sseq
  sseq_le room h = kept_le (send_refusal sseq step t n samples level wait addr room) step sseq h

  pub sseq_steps : (room : ℕ) → send_refusal sseq step t n samples level wait addr room ≡ 0
      → send_sseq sseq step t n samples level wait addr room ≡ sseq_after sseq (step ∷ [])
  unfolding send_sseq sseq_after
  sseq_steps room h = simp (h, (send_taken room h).in_turn_lem)

  -- how long the frame sent is
  pub sent_length : length (send_written sseq step t n samples level wait addr) ≡ 16 * (sample_bits t - min (droppable_bits t) level) + 10
  unfolding send_written
  sent_length = made_sent_length addr t (more_sent step) (sequence_sent step sseq) n samples level wait

  pub written_length : reserved t ≡ false
      → length (send_written sseq step t n samples level wait addr) ≡ frame_length t (min (droppable_bits t) level)
  written_length r = sent_length ∙ sym (rw r)

  -- the order with 16 judged by the type's frame length: where the type has none, 6 comes first
  pub refusal_by_type : (room : ℕ) →
      (refusal14 sseq or_else refusal13 step sseq or_else refusal6 t or_else refusal12 n 0
      or_else refusal11 samples (sample_bits t) or_else refusal10 level or_else refusal15 addr
      or_else refusal16 room (frame_length t (min (droppable_bits t) level)))
      ≡ send_refusal sseq step t n samples level wait addr room
  unfolding send_refusal
  refusal_by_type room = go (reserved t) refl
    where
      go : (b : Bool) → reserved t ≡ b →
          (refusal14 sseq or_else refusal13 step sseq or_else refusal6 t or_else refusal12 n 0
          or_else refusal11 samples (sample_bits t) or_else refusal10 level or_else refusal15 addr
          or_else refusal16 room (frame_length t (min (droppable_bits t) level)))
          ≡ send_refusal sseq step t n samples level wait addr room
      go true e = rw e
      go false e = ap (λ (size : ℕ). refusal14 sseq or_else refusal13 step sseq or_else refusal6 t or_else refusal12 n 0
          or_else refusal11 samples (sample_bits t) or_else refusal10 level or_else refusal15 addr or_else refusal16 room size) (sym (written_length e))

  -- what the call answers and leaves, where it is refused and where its frame is written
  module _ (out : List ℕ) (r : ℕ) (e : r ≡ send_refusal sseq step t n samples level wait addr (length out)) where
    pub send_refused : (r ≡ 0 → ⊥)
        → (record { refusal = r; length = 0 } ≡ send_answer sseq step t n samples level wait addr out)
        × ((out ≡ send_buffer sseq step t n samples level wait addr out)
        × (sseq ≡ send_sseq sseq step t n samples level wait addr (length out)))
    unfolding send_answer send_buffer send_sseq
    send_refused h = (
      answer_refused (send_refusal sseq step t n samples level wait addr (length out)) r (send_written sseq step t n samples level wait addr) e h,
      (
        buffer_refused (send_refusal sseq step t n samples level wait addr (length out)) r (send_written sseq step t n samples level wait addr) e h out,
        refused_is (send_refusal sseq step t n samples level wait addr (length out)) r _ _ _ e h refl,
      ),
    )

    pub none_refused : r ≡ 0 → send_refusal sseq step t n samples level wait addr (length out) ≡ 0
    none_refused z = sym e ∙ z

    pub send_done : (w size after : ℕ) (x : List ℕ) → r ≡ 0 → w ≡ wait
        → size ≡ length (send_written sseq step t n samples level w addr) → x ≡ send_written sseq step t n samples level w addr ++ drop size out
        → after ≡ sseq_set step sseq
        → (record { refusal = 0; length = size } ≡ send_answer sseq step t n samples level wait addr out)
        × ((x ≡ send_buffer sseq step t n samples level wait addr out)
        × (after ≡ send_sseq sseq step t n samples level wait addr (length out)))
    unfolding send_answer send_buffer send_sseq
    send_done w size after x z ew es ex ea =
        let l : size ≡ length (send_written sseq step t n samples level wait addr) = es ∙ ap (λ (k : ℕ). length (send_written sseq step t n samples level k addr)) ew in
        let v : x ≡ send_written sseq step t n samples level wait addr ++ drop size out = ex ∙ ap (λ (k : ℕ). send_written sseq step t n samples level k addr ++ drop size out) ew in (
          answer_done (send_refusal sseq step t n samples level wait addr (length out)) r size (send_written sseq step t n samples level wait addr) e z l,
          (
            buffer_done (send_refusal sseq step t n samples level wait addr (length out)) r size (send_written sseq step t n samples level wait addr) e z l out x v,
            done_is (send_refusal sseq step t n samples level wait addr (length out)) r _ _ _ e z ea,
          ),
        )

  -- the room that the blocks kept and the ten octets around them have
  pub enough_room : (room : ℕ) → SendTaken sseq step t n samples level wait addr room → 8 + 16 * (sample_bits t - min (droppable_bits t) level) + 2 ≤ room
  enough_room room k = omega (arith, k.enough, sent_length)

  -- octets 1 to 8, made with what the step sends
  pub made_by_step : (x : List ℕ) (more seq : ℕ) → more ≡ more_sent step → seq ≡ sequence_sent step sseq → x ≡ made_head addr t more seq n
      → x ≡ made_head addr t (more_sent step) (sequence_sent step sseq) n
  made_by_step x more seq p q e = e ∙ ap₂ (λ (k l : ℕ). made_head addr t k l n) p q

  -- octets 1 to 8, the blocks kept and the seal, put into a buffer one after another
  pub written_in : (O head x₁ x₂ x₃ : List ℕ) (s kept : ℕ) → head ≡ made_head addr t (more_sent step) (sequence_sent step sseq) n
      → s ≡ sample_bits t → kept ≡ sample_bits t - min (droppable_bits t) level
      → x₁ ≡ onward_head level wait addr head ++ drop 8 O → x₂ ≡ packed x₁ samples s kept
      → x₃ ≡ take (8 + 16 * kept) x₂ ++ fcs_octets (take 8 x₂) ++ drop (8 + 16 * kept + 2) x₂
      → x₃ ≡ send_written sseq step t n samples level wait addr ++ drop (8 + 16 * kept + 2) O
  unfolding send_written onward onward_head made made_head framed dropped
  written_in O head x₁ x₂ x₃ s kept eh es ek e₁ e₂ e₃ =
      let f : List ℕ = made addr t (more_sent step) (sequence_sent step sseq) n samples in
      let H : List ℕ = onward_head level wait addr f in
      let F : List ℕ = field samples s kept in
      let e₁' : x₁ ≡ H ++ drop 8 O = e₁ ∙ ap (λ (h : List ℕ). onward_head level wait addr h ++ drop 8 O) eh in
      let eF : F ≡ onward_field level f = ap₂ (field samples) es ek ∙ sym (written_field addr t (more_sent step) (sequence_sent step sseq) n samples level) in
      let l : length (H ++ F) ≡ 8 + 16 * kept = length-append H F ∙ omega (arith, length_field samples s kept) in
      sealed_behind (H ++ F) O x₂ x₃ (8 + 16 * kept) l (omega arith) (e₂ ∙ packed_in H O x₁ samples s kept refl e₁') e₃
      ∙ ap (λ (v : List ℕ). framed H v ++ drop (8 + 16 * kept + 2) O) eF

-- ---- the frame sent passes every check of a node, and its fields

module _ (sseq : ℕ) (step : Step) (t n : ℕ) (samples : List ℕ) (level wait addr : ℕ) where
  abbrev just_made : List ℕ
  just_made = made addr t (more_sent step) (sequence_sent step sseq) n samples

  pub sent_M : field_m (send_written sseq step t n samples level wait addr) ≡ droppable_bits t
  unfolding send_written
  sent_M = onward_M level wait addr just_made ∙ made_M addr t (more_sent step) (sequence_sent step sseq) n samples

  pub sent_C : field_c (send_written sseq step t n samples level wait addr) ≡ droppable_bits t - min (droppable_bits t) level
  unfolding send_written
  sent_C =
      onward_C level wait addr just_made
      ∙ ap₂ (λ (c d : ℕ). c - d) (made_C addr t (more_sent step) (sequence_sent step sseq) n samples) (made_dropped addr t (more_sent step) (sequence_sent step sseq) n samples level)

  pub sent_voice : is_voice (send_written sseq step t n samples level wait addr) ≡ true
  unfolding send_written onward onward_head made made_head framed
  sent_voice = refl

  pub sent_stamp : stamp (send_written sseq step t n samples level wait addr) ≡ stamp_after 0 wait
  unfolding send_written onward onward_head made made_head framed
  sent_stamp = refl

  pub sent_passes : address_bad addr ≡ false → reserved t ≡ false → Passes (send_written sseq step t n samples level wait addr)
  unfolding send_written
  sent_passes inside known = closed level wait addr just_made (made_passes addr t (more_sent step) (sequence_sent step sseq) n samples inside known) inside

  pub sent_coding : reserved t ≡ false → coding (send_written sseq step t n samples level wait addr) ≡ t
  unfolding send_written onward onward_head made made_head framed
  sent_coding known = type_of (more_sent step) t (not_reserved t known).1

  pub sent_more : reserved t ≡ false → more_bit (send_written sseq step t n samples level wait addr) ≡ more_sent step
  unfolding send_written onward onward_head made made_head framed
  sent_more known = more_of (more_sent step) t (more_le step) (not_reserved t known).1

  pub sent_sequence : sseq ≤ 15 → n ≤ 15 → sequence (send_written sseq step t n samples level wait addr) ≡ sequence_sent step sseq
  unfolding send_written onward onward_head made made_head framed
  sent_sequence hs hn = upper_of (sequence_sent step sseq) n (sequence_le step sseq hs) hn

  pub sent_noise : n ≤ 15 → noise (send_written sseq step t n samples level wait addr) ≡ n
  unfolding send_written onward onward_head made made_head framed
  sent_noise hn = lower_of (sequence_sent step sseq) n hn
