-- How much room is enough: a buffer as long as the tray. No frame of it is then refused for want of room, and what is written is no longer than the tray.
use Prim.Native.Nat.{ℕ, zero, suc, ◌+◌, ◌-◌, ◌≤◌}
use mathlib.Core.Path.{◌≡◌, refl, ap, ap₂, ◌∙◌}
use mathlib.Core.Bool.{Bool, true, false}
use mathlib.Core.List.{List, [], ◌∷◌, map}
use native.Mathlib.Omega.{arith}
use lib.ListN.{length, take, drop, length-append, length-drop}
use lib.Seq.{length-take-le}
use borrow.Author.Tests.{le-ltb}
use Rattle.octets.specs.Records.{following}
use Rattle.refusals.specs.Refusals.{◌or_else◌, refuse, refusal10, refusal15}
use Rattle.refusals.proofs.RefusalLaws.{by_taken, by_first}
use Rattle.frame.specs.Orders.{taken_refusal}
use Rattle.frame.proofs.FrameLaws.{passes}
use Rattle.onward.specs.Onward.{onward}
use Rattle.onward.proofs.OnwardLaws.{onward_length, kept}
use Rattle.node.specs.Node.{forward_refusal}
use Rattle.tray.specs.Tray.{whole, frame, read_past, read, tray_refusal, record_of, records_of, frame_refusal, sent_on, passed, tray_answer, tray_list, Forwarded}
use Rattle.tray.specs.Turns.{roomy_refusal}
use Rattle.tray.proofs.ReadLaws.{whole_known, record_length}
use Rattle.tray.proofs.RunLaws.{records_append, record_taken, record_none}
use Rattle.tray.proofs.CallLaws.{done_answer}
use Rattle.tray.proofs.TrayLaws.{sent_within, written_numbers}

-- a tray is as long as the records of its frames and what is left behind them
frame_size : (r : List ℕ) → whole r ≡ true → length (frame r) ≡ following r - 2
unfolding frame
frame_size r w = let k = whole_known r w in length-take-le (following r - 2) (drop 4 r) (omega (arith, length-drop 4 r, k.here))

read_size : (r : List ℕ) (n : ℕ) → length (records_of (read_past r n).frames) + length (read_past r n).left ≡ length (drop n r)
unfolding read_past records_of
read_size [] zero = omega arith
read_size [] (suc n) = omega arith
read_size (x ∷ r) (suc n) = read_size r n
read_size (x ∷ r) zero = go (whole (x ∷ r)) refl (read_size r (1 + following (x ∷ r))) where
  go : (v : Bool) → whole (x ∷ r) ≡ v
      → length (records_of (read_past r (1 + following (x ∷ r))).frames) + length (read_past r (1 + following (x ∷ r))).left ≡ length (drop (1 + following (x ∷ r)) r)
      → length (records_of (read_past (x ∷ r) 0).frames) + length (read_past (x ∷ r) 0).left ≡ length (x ∷ r)
  go true w ih =
      let k = whole_known (x ∷ r) w in
      rw w (omega (arith, ih, k.long, k.here, frame_size (x ∷ r) w, record_length (frame (x ∷ r)), length-drop (1 + following (x ∷ r)) r, length-append (record_of (frame (x ∷ r))) (records_of (read_past r (1 + following (x ∷ r))).frames)))
  go false w ih = rw w (omega arith)

-- the last of an order comes to nothing
without_last : (a b : ℕ) → (a ≡ 0 → b ≡ 0) → a or_else b ≡ a
without_last zero b h = h refl
without_last (suc a) b h = refl

module _ (level wait addr : ℕ) where
  -- the room of a frame as it came is enough for it
  number_roomy : (f : List ℕ) (room : ℕ) → 4 + length f ≤ room → frame_refusal level wait addr f room ≡ roomy_refusal level addr f
  unfolding frame_refusal forward_refusal roomy_refusal
  number_roomy f room h =
      by_first (refusal10 level) _ _
      (λ low. by_first (refusal15 addr) _ _
      (λ inside. without_last (taken_refusal f) _
      (λ z.
      ap (λ (b : Bool). refuse b 16)
      (le-ltb (room - 4) (length (onward level wait addr f)) (omega (arith, onward_length level wait addr f, kept level wait addr f (passes f z)))))))

  sent_size : (f : List ℕ) (room : ℕ) → length (records_of (sent_on level wait addr f room)) ≤ 4 + length f
  sent_size f room =
      by_taken (frame_refusal level wait addr f room)
      (λ z. omega (arith, ap length (record_taken level wait addr f room z), record_length (onward level wait addr f), (sent_within level wait addr f room z).0))
      (λ n. omega (arith, ap length (record_none level wait addr f room n)))

  all_roomy : (fs : List (List ℕ)) (room : ℕ) → length (records_of fs) ≤ room → (passed level wait addr fs room).refusals ≡ map (roomy_refusal level addr) fs
  unfolding passed records_of
  all_roomy [] room h = refl
  all_roomy (f ∷ fs) room h =
      let n = length-append (record_of f) (records_of fs) in
      let k = record_length f in
      ap₂ (λ (q : ℕ) (l : List ℕ). q ∷ l) (number_roomy f room (omega (arith, n, k)))
      (all_roomy fs (room - length (records_of (sent_on level wait addr f room))) (omega (arith, n, k, sent_size f room)))

  sent_shorter : (fs : List (List ℕ)) (room : ℕ) → length (records_of (passed level wait addr fs room).sent) ≤ length (records_of fs)
  unfolding passed records_of
  sent_shorter [] room = omega arith
  sent_shorter (f ∷ fs) room =
      let s : List (List ℕ) = sent_on level wait addr f room in
      let p : List (List ℕ) = (passed level wait addr fs (room - length (records_of s))).sent in
      omega (arith, ap length (records_append s p), length-append (records_of s) (records_of p), length-append (record_of f) (records_of fs), record_length f, sent_size f room, sent_shorter fs (room - length (records_of s)))

  module _ (tray out list : List ℕ) (z : tray_refusal tray (length list) ≡ 0) where
    records_within : length (records_of (read tray).frames) ≤ length tray
    records_within = omega (arith, read_size tray 0)

    pub written_within : (tray_answer level wait addr tray out list).written ≤ length tray
    written_within = omega (arith, ap (λ (a : Forwarded). a.written) (done_answer level wait addr tray out list z), sent_shorter (read tray).frames (length out), records_within)

    pub room_enough : length tray ≤ length out
        → take (tray_answer level wait addr tray out list).records (tray_list level wait addr tray out list) ≡ map (roomy_refusal level addr) (read tray).frames
    room_enough h = written_numbers level wait addr tray out list z ∙ all_roomy (read tray).frames (length out) (omega (arith, h, records_within))
