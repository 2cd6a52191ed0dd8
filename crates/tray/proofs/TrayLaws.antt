-- A tray that is not refused: what the call answers and leaves, and that what it writes is a tray.
use Prim.Native.Nat.{ℕ, suc, ◌+◌, ◌-◌, ◌≤◌, ◌<◌}
use mathlib.Core.Path.{◌≡◌, refl, ap, ap₂, ◌∙◌}
use mathlib.Core.Bool.{false}
use mathlib.Core.List.{List, [], ◌∷◌, ◌++◌}
use native.Mathlib.Omega.{arith}
use lib.ListN.{length, take, drop}
use lib.Seq.{take_at}
use borrow.Author.Tests.{le-ltb}
use Rattle.refusals.specs.Refusals.{if_taken, address_bad}
use Rattle.refusals.proofs.RefusalLaws.{by_taken, if_refused}
use Rattle.frame.specs.Orders.{link_refusal, taken_refusal}
use Rattle.frame.proofs.FrameLaws.{passes, taken_short}
use Rattle.onward.specs.Onward.{onward}
use Rattle.onward.proofs.OnwardLaws.{onward_length, kept}
use Rattle.node.specs.Node.{forward_refusal}
use Rattle.node.proofs.ForwardLaws.{forwarded}
use Rattle.tray.specs.Tray.{read_past, read, tray_refusal, records_of, frame_refusal, sent_on, passed, numbers, outgoing, tray_answer, tray_buffer, tray_list, Forwarded}
use Rattle.tray.specs.Turns.{Fit}
use Rattle.tray.proofs.ReadLaws.{read_records}
use Rattle.tray.proofs.CallLaws.{whole_tray, done_answer, done_buffer, done_list}

module _ (level wait addr : ℕ) where
  -- one number for each frame
  pub one_each : (fs : List (List ℕ)) (room : ℕ) → length (passed level wait addr fs room).refusals ≡ length fs
  unfolding passed
  one_each [] room = refl
  one_each (f ∷ fs) room = ap suc (one_each fs (room - length (records_of (sent_on level wait addr f room))))

  -- no frame that is sent on is longer than it came, and none too long for a record
  pub sent_within : (f : List ℕ) (room : ℕ) → frame_refusal level wait addr f room ≡ 0 → (length (onward level wait addr f) ≤ length f) × (length f ≤ 138)
  unfolding frame_refusal
  sent_within f room z =
      let t = forwarded level wait addr f (room - 4) z in
      (omega (arith, onward_length level wait addr f, kept level wait addr f (passes f t.legal)), taken_short f t.legal)

  first_fits : (f : List ℕ) (room : ℕ) (gs : List (List ℕ)) → Fit gs → Fit (sent_on level wait addr f room ++ gs)
  unfolding sent_on
  first_fits f room gs h = by_taken (frame_refusal level wait addr f room) taken refused where
    taken : frame_refusal level wait addr f room ≡ 0 → Fit (if_taken (frame_refusal level wait addr f room) (onward level wait addr f ∷ []) [] ++ gs)
    taken z = let s = sent_within f room z in let n : length (onward level wait addr f) + 2 < 65536 = omega (arith, s.0, s.1) in rw z (n, h)

    refused : (frame_refusal level wait addr f room ≡ 0 → ⊥) → Fit (if_taken (frame_refusal level wait addr f room) (onward level wait addr f ∷ []) [] ++ gs)
    refused n = rw (if_refused (frame_refusal level wait addr f room) (onward level wait addr f ∷ []) [] n) h

  pub sent_fits : (fs : List (List ℕ)) (room : ℕ) → Fit (passed level wait addr fs room).sent
  unfolding passed
  sent_fits [] room = tt
  sent_fits (f ∷ fs) room = first_fits f room _ (sent_fits fs (room - length (records_of (sent_on level wait addr f room))))

  module _ (tray out list : List ℕ) (z : tray_refusal tray (length list) ≡ 0) where
    pub written_octets : take (tray_answer level wait addr tray out list).written (tray_buffer level wait addr tray out list) ≡ outgoing level wait addr tray (length out)
    written_octets =
        let w : List ℕ = outgoing level wait addr tray (length out) in
        ap₂ (λ (a : Forwarded) (b : List ℕ). take a.written b) (done_answer level wait addr tray out list z) (done_buffer level wait addr tray out list z) ∙ take_at w (drop (length w) out) (length w) refl

    pub written_numbers : take (tray_answer level wait addr tray out list).records (tray_list level wait addr tray out list) ≡ numbers level wait addr tray (length out)
    written_numbers =
        let w : List ℕ = numbers level wait addr tray (length out) in
        ap₂ (λ (a : Forwarded) (b : List ℕ). take a.records b) (done_answer level wait addr tray out list z) (done_list level wait addr tray out list z) ∙ take_at w (drop (length w) list) (length (read tray).frames) (one_each (read tray).frames (length out))

    -- what is written, read as a tray: the frames that the node sends on, in their order, and nothing left
    pub written_tray : read (take (tray_answer level wait addr tray out list).written (tray_buffer level wait addr tray out list))
        ≡ record { frames = (passed level wait addr (read tray).frames (length out)).sent; left = [] }
    written_tray = ap read written_octets ∙ read_records _ (sent_fits (read tray).frames (length out))

  -- an empty tray is done: no record, nothing written, the list as it came
  pub empty_tray : (out list : List ℕ)
      → (tray_answer level wait addr [] out list ≡ record { refusal = 0; records = 0; written = 0 })
      × (tray_buffer level wait addr [] out list ≡ out) × (tray_list level wait addr [] out list ≡ list)
  unfolding read_past passed records_of
  empty_tray out list =
      let z = whole_tray [] (length list) refl (omega arith) in
      (done_answer level wait addr [] out list z, done_buffer level wait addr [] out list z, done_list level wait addr [] out list z)

  -- a record of length 2 has a frame of no octets: the node refuses it with 1, if not with 10 or 15
  pub empty_frame : level ≤ 3 → address_bad addr ≡ false → (room : ℕ) → frame_refusal level wait addr [] room ≡ 1
  unfolding frame_refusal forward_refusal taken_refusal link_refusal
  empty_frame low inside room = simp (le-ltb 3 level low, inside) refl
