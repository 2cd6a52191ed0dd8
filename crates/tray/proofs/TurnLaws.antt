-- Request A8 in the operator's words: the outgoing records, read as a tray, are those of calling the node on each frame in turn, and the list is their refusals.
use Prim.Native.Nat.{ℕ, ◌+◌, ◌-◌, ◌≤◌, ◌<◌}
use mathlib.Core.Path.{◌≡◌, refl, sym, ap, ap₂, ◌∙◌}
use mathlib.Core.List.{List, [], ◌∷◌, ◌++◌, append-nil}
use native.Mathlib.Omega.{arith}
use lib.ListN.{length, take, drop, length-drop, take-append-drop}
use lib.Seq.{drop-drop}
use Rattle.refusals.specs.Refusals.{if_taken}
use Rattle.refusals.proofs.RefusalLaws.{by_taken, if_taken_lem, if_refused, if_same}
use Rattle.onward.specs.Onward.{onward}
use Rattle.onward.specs.Sent.{Sent, sent_answer, sent_buffer}
use Rattle.onward.proofs.SentLaws.{answered, whole_output}
use Rattle.node.specs.Node.{forward_refusal, forward_answer, forward_buffer}
use Rattle.tray.specs.Tray.{Read, read, tray_refusal, record_head, record_of, records_of, Passed, with_first, frame_refusal, sent_on, passed, outgoing, tray_answer, tray_buffer, tray_list}
use Rattle.tray.specs.Turns.{answer_of, written_of, left_of, in_turn}
use Rattle.tray.proofs.ReadLaws.{read_records, record_length}
use Rattle.tray.proofs.RunLaws.{record_taken, record_none}
use Rattle.tray.proofs.CallLaws.{whole_tray, done_answer, done_buffer, done_list}
use Rattle.tray.proofs.TrayLaws.{written_tray, written_numbers}

module _ (level wait addr : ℕ) where
  -- the node's call on one frame, by the room
  module _ (f out : List ℕ) where
    same_number : frame_refusal level wait addr f (length out) ≡ forward_refusal level wait addr f (length (drop 4 out))
    unfolding frame_refusal
    same_number = ap (forward_refusal level wait addr f) (sym (length-drop 4 out))

    number_of : (answer_of level wait addr f out).refusal ≡ frame_refusal level wait addr f (length out)
    unfolding forward_answer
    number_of = answered (forward_refusal level wait addr f (length (drop 4 out))) (onward level wait addr f) ∙ sym same_number

    frame_of : frame_refusal level wait addr f (length out) ≡ 0 → written_of level wait addr f out ≡ onward level wait addr f
    unfolding forward_answer forward_buffer
    frame_of z = whole_output (forward_refusal level wait addr f (length (drop 4 out))) (onward level wait addr f) (drop 4 out) (sym same_number ∙ z)

    length_of_lem : frame_refusal level wait addr f (length out) ≡ 0 → (answer_of level wait addr f out).length ≡ length (onward level wait addr f)
    unfolding forward_answer sent_answer
    length_of_lem z = ap (λ (s : Sent). s.length) (if_taken_lem (forward_refusal level wait addr f (length (drop 4 out))) _ _ (sym same_number ∙ z))

    sent_of_lem : if_taken (answer_of level wait addr f out).refusal (written_of level wait addr f out ∷ []) [] ≡ sent_on level wait addr f (length out)
    unfolding sent_on
    sent_of_lem =
        ap (λ (q : ℕ). if_taken q (written_of level wait addr f out ∷ []) []) number_of
        ∙ if_same (frame_refusal level wait addr f (length out)) _ _ [] (λ z. ap (λ (g : List ℕ). g ∷ []) (frame_of z))

    left_of_lem : length (left_of level wait addr f out) ≡ length out - length (records_of (sent_on level wait addr f (length out)))
    unfolding left_of
    left_of_lem =
        by_taken (frame_refusal level wait addr f (length out))
        (λ z.
        ap length (if_taken_lem (answer_of level wait addr f out).refusal _ _ (number_of ∙ z)) ∙ length-drop (4 + (answer_of level wait addr f out).length) out
        ∙ omega (arith, length_of_lem z, ap length (record_taken level wait addr f (length out) z), record_length (onward level wait addr f)))
        (λ n.
        ap length (if_refused (answer_of level wait addr f out).refusal _ _ (λ e. n (sym number_of ∙ e)))
        ∙ omega (arith, ap length (record_none level wait addr f (length out) n)))

  -- the definition by the room is the node's own calls, one after the other
  pub each_in_turn : (fs : List (List ℕ)) (out : List ℕ) → passed level wait addr fs (length out) ≡ in_turn level wait addr fs out
  unfolding passed in_turn
  each_in_turn [] out = refl
  each_in_turn (f ∷ fs) out =
      ap₂ (λ (q : ℕ) (s : List (List ℕ)). with_first q s (passed level wait addr fs (length out - length (records_of (sent_on level wait addr f (length out)))))) (sym (number_of f out)) (sym (sent_of_lem f out))
      ∙ ap (λ (p : Passed). with_first (answer_of level wait addr f out).refusal (if_taken (answer_of level wait addr f out).refusal (written_of level wait addr f out ∷ []) []) p)
      (ap (passed level wait addr fs) (sym (left_of_lem f out)) ∙ each_in_turn fs (left_of level wait addr f out))

  pub as_the_node_does : (tray out list : List ℕ) → tray_refusal tray (length list) ≡ 0
      → (read (take (tray_answer level wait addr tray out list).written (tray_buffer level wait addr tray out list)) ≡ record { frames = (in_turn level wait addr (read tray).frames out).sent; left = [] })
      × (take (tray_answer level wait addr tray out list).records (tray_list level wait addr tray out list) ≡ (in_turn level wait addr (read tray).frames out).refusals)
  as_the_node_does tray out list z =
      let e = each_in_turn (read tray).frames out in
      (written_tray level wait addr tray out list z ∙ ap (λ (p : Passed). record { frames = p.sent; left = [] }) e, written_numbers level wait addr tray out list z ∙ ap (λ (p : Passed). p.refusals) e)

  -- a tray of one frame is the node's call: its number in the list, its frame in the buffer behind the record's four octets
  module _ (f out list : List ℕ) (h : length f + 2 < 65536) (n : 1 ≤ length list) where
    one_read : read (record_of f) ≡ record { frames = f ∷ []; left = [] }
    unfolding records_of
    one_read = ap read (sym (append-nil (record_of f))) ∙ read_records (f ∷ []) (h, tt)

    one_whole : tray_refusal (record_of f) (length list) ≡ 0
    one_whole = whole_tray (record_of f) (length list) (ap (λ (r : Read). r.left) one_read) (omega (arith, ap (λ (r : Read). length r.frames) one_read))

    one_passed : passed level wait addr (read (record_of f)).frames (length out) ≡ record { refusals = frame_refusal level wait addr f (length out) ∷ []; sent = sent_on level wait addr f (length out) }
    unfolding passed
    one_passed =
        ap (λ (r : Read). passed level wait addr r.frames (length out)) one_read
        ∙ ap (λ (s : List (List ℕ)). record { refusals = frame_refusal level wait addr f (length out) ∷ []; sent = s }) (append-nil (sent_on level wait addr f (length out)))

    one_octets : outgoing level wait addr (record_of f) (length out) ≡ records_of (sent_on level wait addr f (length out))
    one_octets = ap (λ (p : Passed). records_of p.sent) one_passed

    pub one_list : tray_list level wait addr (record_of f) out list ≡ (answer_of level wait addr f out).refusal ∷ drop 1 list
    one_list =
        done_list level wait addr (record_of f) out list one_whole ∙ ap (λ (p : Passed). p.refusals ++ drop (length p.refusals) list) one_passed
        ∙ ap (λ (q : ℕ). q ∷ drop 1 list) (sym (number_of f out))

    pub one_answer : tray_answer level wait addr (record_of f) out list
        ≡ record { refusal = 0; records = 1; written = if_taken (answer_of level wait addr f out).refusal (4 + (answer_of level wait addr f out).length) 0 }
    one_answer =
        done_answer level wait addr (record_of f) out list one_whole
        ∙ ap₂ (λ (i j : ℕ). record { refusal = 0; records = i; written = j }) (ap (λ (r : Read). length r.frames) one_read) (ap length one_octets ∙ size)
      where
        size : length (records_of (sent_on level wait addr f (length out))) ≡ if_taken (answer_of level wait addr f out).refusal (4 + (answer_of level wait addr f out).length) 0
        size =
            by_taken (frame_refusal level wait addr f (length out))
            (λ z. ap length (record_taken level wait addr f (length out) z) ∙ record_length (onward level wait addr f) ∙ ap (λ (k : ℕ). 4 + k) (sym (length_of_lem f out z)) ∙ sym (if_taken_lem (answer_of level wait addr f out).refusal _ _ (number_of f out ∙ z)))
            (λ m. ap length (record_none level wait addr f (length out) m) ∙ sym (if_refused (answer_of level wait addr f out).refusal _ _ (λ e. m (sym (number_of f out) ∙ e))))

    pub one_buffer : tray_buffer level wait addr (record_of f) out list
        ≡ if_taken (answer_of level wait addr f out).refusal (record_head (answer_of level wait addr f out).length) (take 4 out) ++ forward_buffer level wait addr f (drop 4 out)
    unfolding forward_buffer sent_buffer record_of
    one_buffer = done_buffer level wait addr (record_of f) out list one_whole ∙ ap (λ (l : List ℕ). l ++ drop (length l) out) one_octets
        ∙ by_taken (frame_refusal level wait addr f (length out))
        (λ z.
        let g : List ℕ = onward level wait addr f in
        let t = record_taken level wait addr f (length out) z in
        ap (λ (l : List ℕ). l ++ drop (length l) out) t
        ∙ ap (λ (k : ℕ). record_head (length g) ++ (g ++ drop k out)) (record_length g) ∙ ap (λ (l : List ℕ). record_head (length g) ++ (g ++ l)) (sym (drop-drop (length g) 4 out))
        ∙ ap₂ (λ (a b : List ℕ). a ++ b)
        (ap record_head (sym (length_of_lem f out z)) ∙ sym (if_taken_lem (answer_of level wait addr f out).refusal _ _ (number_of f out ∙ z)))
        (sym (if_taken_lem (forward_refusal level wait addr f (length (drop 4 out))) (g ++ drop (length g) (drop 4 out)) (drop 4 out) (sym (same_number f out) ∙ z))))
        (λ m.
        ap (λ (l : List ℕ). l ++ drop (length l) out) (record_none level wait addr f (length out) m) ∙ sym (take-append-drop 4 out)
        ∙ ap₂ (λ (a b : List ℕ). a ++ b)
        (sym (if_refused (answer_of level wait addr f out).refusal _ _ (λ e. m (sym (number_of f out) ∙ e))))
        (sym (if_refused (forward_refusal level wait addr f (length (drop 4 out))) _ (drop 4 out) (λ e. m (same_number f out ∙ e)))))
