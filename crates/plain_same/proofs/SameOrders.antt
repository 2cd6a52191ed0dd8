-- The questions one after another are the orders of the refusals.
use Prim.Native.Nat.{ℕ, suc, ◌+◌, ◌*◌, ◌^◌, min}
use mathlib.Core.Path.{◌≡◌, refl, sym, ap, ap₂, ◌∙◌}
use mathlib.Core.Bool.{Bool, true, false, ◌||◌, ◌&&◌, not, cond}
use mathlib.Core.List.{List, [], ◌∷◌}
use native.Mathlib.Omega.{arith}
use borrow.Author.Tests.{ltb-true, ltb-false, lt-leb, le-leb}
use lib.Dec.{ltb, leb, eqb}
use lib.ListN.{length, get_or, take}
use Rattle.octets.specs.Octets.{two}
use Rattle.refusals.specs.Refusals.{◌or_else◌, refuse, address_bad}
use Rattle.refusals.proofs.RefusalLaws.{by_first}
use Rattle.coding.specs.Coding.{sample_bits, droppable_bits, frame_length, reserved}
use Rattle.fcs.specs.Fcs.{fcs_of, fcs_octets, fcs_good}
use Rattle.blocks.specs.Blocks.{all_below, samples_fit}
use Rattle.frame.specs.Fields.{is_voice, coding, covered}
use Rattle.frame.specs.Orders.{link_refusal, layout_refusal, taken_refusal, voice_refusal}
use Rattle.onward.specs.Onward.{onward}
use Rattle.node.specs.Node.{forward_refusal}
use Rattle.origin.specs.Burst.{refusal13}
use Rattle.origin.specs.Send.{send_refusal}
use Rattle.origin.proofs.SendLaws.{refusal_by_type}
use Rattle.origin.specs.declared.Step.{Step}
use Rattle.origin.specs.declared.Step.TheVariants.{Start, Data, Stop}
use Rattle.plain_order.specs.Order.{length_wrong, address_wrong, control_wrong, command_or_poll, check_wrong, protocol_wrong, coding_wrong, dropping_wrong, size_wrong, stamp_wrong, link_order, layout_order, taken_order, read_order}
use Rattle.plain_order.proofs.OrderLaws.{taken_long}
use Rattle.plain_passes.specs.Passes.{drop_pass}
use Rattle.plain_packet.specs.Packet.{out_of_turn, too_large, samples_wrong, packet_order, send_order}
use Rattle.plain.specs.Forward.{forward_order}
use Rattle.plain_same.proofs.CheckLaws.{check_is}
use Rattle.plain_same.proofs.StepLaws.{drop_onward}

-- one question, and then the rest of the order: it asks for the number q
asks : (w : Bool) (n s : ℕ) {q r : ℕ} → refuse w (suc n) ≡ q → r ≡ s → cond w (suc n) r ≡ q or_else s
asks true n s e p = ap (λ (x : ℕ). x or_else s) e
asks false n s e p = p ∙ ap (λ (x : ℕ). x or_else s) e

-- the last question
ends : (w : Bool) (n : ℕ) {q : ℕ} → refuse w (suc n) ≡ q → cond w (suc n) 0 ≡ q
ends true n e = e
ends false n e = e

-- a question among those of a first part, before another part
asks_within : (w : Bool) (n r more s : ℕ) {q : ℕ} → refuse w (suc n) ≡ q → r or_else more ≡ s → cond w (suc n) r or_else more ≡ q or_else s
asks_within true n r more s e p = ap (λ (x : ℕ). x or_else s) e
asks_within false n r more s e p = p ∙ ap (λ (x : ℕ). x or_else s) e

as_sent : (l : List ℕ) → two 1 (fcs_octets l) ≡ fcs_of l
unfolding fcs_octets
as_sent l = omega arith

check_wrong_lem : (f : List ℕ) → check_wrong f ≡ not (fcs_good (covered f) f)
unfolding check_wrong fcs_good
check_wrong_lem f =
    let message = take (covered f) f in
    ap₂ (λ (x y : ℕ). not (eqb x y))
    (ap₂ (λ (i j : ℕ). get_or f i 0 + 256 * get_or f j 0) (omega arith) (omega arith))
    (ap (two 1) (check_is message) ∙ as_sent message)

link_order_lem : (f : List ℕ) → link_order f ≡ link_refusal f
unfolding link_order link_refusal length_wrong address_wrong control_wrong command_or_poll protocol_wrong
link_order_lem f =
    asks (length_wrong f) 0 _ refl
    (asks (address_wrong f) 1 _ refl
    (asks (control_wrong f) 2 _ refl
    (asks (command_or_poll f) 23 _ refl
    (asks (check_wrong f) 3 _ (ap (λ (w : Bool). refuse w 4) (check_wrong_lem f))
    (ends (protocol_wrong f) 4 refl)))))

layout_order_lem : (f : List ℕ) → layout_order f ≡ layout_refusal f
unfolding layout_order layout_refusal dropping_wrong size_wrong stamp_wrong
layout_order_lem f = asks (dropping_wrong f) 6 _ refl (asks (size_wrong f) 7 _ refl (ends (stamp_wrong f) 8 refl))

coded_order : (f : List ℕ) → cond (coding_wrong f) 6 (layout_order f) ≡ refuse (is_voice f && reserved (coding f)) 6 or_else layout_refusal f
unfolding coding_wrong
coded_order f = asks (coding_wrong f) 5 _ refl (layout_order_lem f)

pub taken_order_lem : (f : List ℕ) → taken_order f ≡ taken_refusal f
unfolding taken_order taken_refusal
taken_order_lem f = ap₂ ◌or_else◌ (link_order_lem f) (coded_order f)

pub read_order_lem : (f : List ℕ) → read_order f ≡ voice_refusal f
unfolding read_order voice_refusal
read_order_lem f = ap₂ ◌or_else◌ (link_order_lem f) (asks (not (is_voice f)) 18 _ refl (coded_order f))

pub forward_order_lem : (level wait addr : ℕ) (f : List ℕ) (room : ℕ) → forward_order level addr f room ≡ forward_refusal level wait addr f room
unfolding forward_order forward_refusal
forward_order_lem level wait addr f room =
    let size = length (onward level wait addr f) in
    asks (ltb 3 level) 9 _ refl
    (asks (address_bad addr) 14 _ refl
    (by_first (taken_order f) (cond (ltb room (length (drop_pass level f))) 16 0) (refuse (ltb room size) 16)
    (λ taken. ends (ltb room (length (drop_pass level f))) 15 (ap (λ (n : ℕ). refuse (ltb room n) 16) (drop_onward level wait addr f (taken_long f taken).0)))
    ∙ ap (λ (t : ℕ). t or_else refuse (ltb room size) 16) (taken_order_lem f)))

out_of_turn_lem : (step : Step) (sseq : ℕ) → refuse (out_of_turn step sseq) 13 ≡ refusal13 step sseq
unfolding out_of_turn
out_of_turn_lem Start sseq = refl
out_of_turn_lem Data sseq = refl
out_of_turn_lem Stop sseq = refl

noise_alone : (w : Bool) → refuse w 12 ≡ refuse (w || false) 12
noise_alone true = refl
noise_alone false = refl

not_both : (a b : Bool) → not (a && b) ≡ (not a || not b)
not_both true b = refl
not_both false b = refl

large_or_below : (m x : ℕ) → leb m x ≡ not (ltb x m)
large_or_below m x = compare (ltb x m) refl
  where
    compare : (b : Bool) → ltb x m ≡ b → leb m x ≡ not b
    compare true e = lt-leb m x (ltb-true x m e)
    compare false e = le-leb m x (ltb-false x m e)

too_large_lem : (m : ℕ) (xs : List ℕ) → too_large m xs ≡ not (all_below m xs)
unfolding too_large all_below
too_large_lem m [] = refl
too_large_lem m (x ∷ xs) = ap₂ ◌||◌ (large_or_below m x) (too_large_lem m xs) ∙ sym (not_both (ltb x m) (all_below m xs))

samples_wrong_lem : (xs : List ℕ) (S : ℕ) → samples_wrong xs S ≡ not (samples_fit xs S)
unfolding samples_wrong samples_fit
samples_wrong_lem xs S = ap (λ (w : Bool). not (eqb (length xs) 128) || w) (too_large_lem (2 ^ S) xs) ∙ sym (not_both (eqb (length xs) 128) (all_below (2 ^ S) xs))

pub send_order_lem : (sseq : ℕ) (step : Step) (t n : ℕ) (xs : List ℕ) (level wait addr room : ℕ)
    → send_order sseq step t n xs level addr room ≡ send_refusal sseq step t n xs level wait addr room
unfolding send_order packet_order
send_order_lem sseq step t n xs level wait addr room =
    asks_within (ltb 15 sseq) 13 _ _ _ refl
    (asks_within (out_of_turn step sseq) 12 _ _ _ (out_of_turn_lem step sseq)
    (asks_within (reserved t) 5 _ _ _ refl
    (asks_within (ltb 15 n) 11 _ _ _ (noise_alone (ltb 15 n))
    (asks_within (samples_wrong xs (sample_bits t)) 10 0 _ _ (ap (λ (w : Bool). refuse w 11) (samples_wrong_lem xs (sample_bits t)))
    (asks (ltb 3 level) 9 _ refl
    (asks (address_bad addr) 14 _ refl
    (ends (ltb room (frame_length t (min (droppable_bits t) level))) 15 refl)))))))
    ∙ refusal_by_type sseq step t n xs level wait addr room
