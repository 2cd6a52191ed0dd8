-- The packet judged, its frame made step by step, and what holds of it once nothing is refused.
use Prim.Native.Nat.{ℕ, zero, suc, ◌+◌, ◌-◌, ◌*◌, ◌%◌, min, ◌≤◌, ◌<◌}
use mathlib.Core.Path.{◌≡◌, refl, sym, ap, ap₂, ◌∙◌}
use mathlib.Core.Bool.{Bool, false, ◌||◌}
use mathlib.Core.List.{List, [], ◌∷◌, ◌++◌}
use native.Mathlib.Nat.{zero-add, suc-add}
use native.Mathlib.Omega.{arith}
use borrow.Author.Tests.{ltb-false}
use lib.Dec.{ltb, leb}
use lib.ListN.{length, take, drop, replicate, length-append}
use lib.Seq.{take-append-add}
use Rattle.std.specs.List.{list_any}
use Rattle.refusals.specs.Refusals.{address_bad}
use Rattle.refusals.proofs.RefusalLaws.{or_else_zero, in_range}
use Rattle.coding.specs.Coding.{sample_bits, droppable_bits, frame_length, reserved}
use Rattle.coding.proofs.CodingLaws.{d_le_3, d_le_s}
use Rattle.plain_order.proofs.OrderLaws.{passed_by}
use Rattle.origin.specs.Burst.{sequence_sent, more_sent}
use Rattle.origin.specs.declared.Step.{Step}
use Rattle.plain_blocks.specs.Figure7.{picked_blocks}
use Rattle.plain_blocks.proofs.Figure7Laws.{blocks_length}
use Rattle.plain_passes.specs.Passes.{blocks_dropped, drop_pass}
use Rattle.plain_passes.proofs.PassLaws.{drop_length}
use Rattle.plain_packet.specs.Packet.{plain_header, plain_made, out_of_turn, too_large, packet_order, send_order}

-- one of the samples, in std's words
pub large_is : (m : ℕ) (xs : List ℕ) → list_any (λ (x : ℕ). leb m x) xs ≡ too_large m xs
unfolding too_large
large_is m [] = refl
large_is m (x ∷ xs) = ap (λ (b : Bool). leb m x || b) (large_is m xs)

-- the array's front is the frame as it is made
pub made_front : (head voice x : List ℕ) (s : ℕ) → length head ≡ 8 → length voice ≡ 16 * s → s ≤ 8 → x ≡ head ++ voice ++ drop (8 + 16 * s) (replicate 138 0)
    → take (8 + 16 * s + 2) x ≡ head ++ voice ++ 0 ∷ 0 ∷ []
made_front head voice x s eh ev h ex =
    let front : length (head ++ voice) ≡ 8 + 16 * s = length-append head voice ∙ omega arith in
    ap (take (8 + 16 * s + 2)) ex
    ∙ ap (λ (n : ℕ). take (n + 2) (head ++ voice ++ drop (8 + 16 * s) (replicate 138 0))) (sym front)
    ∙ take-append-add (head ++ voice) (drop (8 + 16 * s) (replicate 138 0)) 2
    ∙ ap (λ (l : List ℕ). head ++ voice ++ l) (zeros_left (8 + 16 * s) (omega arith))
  where
    zeros_drop : (n k : ℕ) → ◌≡◌ {A = List ℕ} (drop n (replicate (n + k) 0)) (replicate k 0)
    zeros_drop zero k = ap (λ (m : ℕ). replicate m 0) (zero-add k)
    zeros_drop (suc n) k = ap (λ (m : ℕ). drop (suc n) (replicate m 0)) (suc-add n k) ∙ zeros_drop n k

    zeros_left : (n : ℕ) → n + 2 ≤ 138 → ◌≡◌ {A = List ℕ} (take 2 (drop n (replicate 138 0))) (0 ∷ 0 ∷ [])
    zeros_left n h =
        let e : 138 ≡ n + suc (suc (136 - n)) = omega arith in
        ap (λ (m : ℕ). take 2 (drop n (replicate m 0))) e ∙ ap (take 2) (zeros_drop n (suc (suc (136 - n))))

-- the frame as `send` makes it, step by step
pub made_by : (t n : ℕ) (xs : List ℕ) (turn : Step) (sseq more seq s : ℕ) (head : List ℕ) → more ≡ more_sent turn → seq ≡ sequence_sent turn sseq → head ≡ plain_header t more seq n → s ≡ sample_bits t
    → head ++ picked_blocks s xs s ++ 0 ∷ 0 ∷ [] ≡ plain_made t (more_sent turn) (sequence_sent turn sseq) n xs
unfolding plain_made
made_by t n xs turn sseq more seq s head em eq eh es = rw (eh, em, eq, es) refl

made_length : (t more seq n : ℕ) (xs : List ℕ) → length (plain_made t more seq n xs) ≡ 16 * sample_bits t + 10
unfolding plain_made plain_header
made_length t more seq n xs =
    let v = picked_blocks (sample_bits t) xs (sample_bits t) in
    length-append (plain_header t more seq n ++ v) (0 ∷ 0 ∷ []) ∙ omega (arith, length-append (plain_header t more seq n) v, blocks_length (sample_bits t) xs (sample_bits t))

made_fewer : (t more seq n : ℕ) (xs : List ℕ) (level : ℕ) → blocks_dropped level (plain_made t more seq n xs) ≡ min (droppable_bits t) level
unfolding blocks_dropped plain_made plain_header
made_fewer t more seq n xs level = ap (λ (c : ℕ). min c level) (own (droppable_bits t) (d_le_3 t))
  where
    own : (d : ℕ) → d ≤ 3 → (d * 16 + d) % 4 ≡ d
    own d h = omega arith

-- how long it is once its blocks are dropped
pub made_dropped : (t more seq n : ℕ) (xs : List ℕ) (level : ℕ) → reserved t ≡ false → length (drop_pass level (plain_made t more seq n xs)) ≡ frame_length t (min (droppable_bits t) level)
made_dropped t more seq n xs level known =
    let f = plain_made t more seq n xs in
    let whole : length f ≡ 16 * sample_bits t + 10 = made_length t more seq n xs in
    let fewer : blocks_dropped level f ≡ min (droppable_bits t) level = made_fewer t more seq n xs level in
    let fits : min (droppable_bits t) level ≤ sample_bits t = omega (arith, d_le_s t) in
    drop_length level f (omega arith)
    ∙ ap₂ (λ (a b : ℕ). 10 + (a - 10 - 16 * b)) whole fewer
    ∙ by_blocks (sample_bits t) (min (droppable_bits t) level)
    ∙ rw known refl
  where
    by_blocks : (S d : ℕ) → 10 + (16 * S + 10 - 10 - 16 * d) ≡ 16 * (S - d) + 10
    by_blocks S d = omega arith

-- what is known of a call that sends
pub record SendTaken (sseq t n level addr room : ℕ) : Type 0 where
  pub in_record : sseq ≤ 15
  pub known : reserved t ≡ false
  pub quiet : n ≤ 15
  pub inside : addr < 8192
  pub enough : frame_length t (min (droppable_bits t) level) ≤ room

pub send_taken : (sseq : ℕ) (step : Step) (t n : ℕ) (xs : List ℕ) (level addr room : ℕ) → send_order sseq step t n xs level addr room ≡ 0 → SendTaken sseq t n level addr room
unfolding send_order packet_order
send_taken sseq step t n xs level addr room e =
    let p = or_else_zero (packet_order sseq step t n xs) _ e in
    let q14 = passed_by (ltb 15 sseq) 13 _ p.0 in
    let q13 = passed_by (out_of_turn step sseq) 12 _ q14.1 in
    let q6 = passed_by (reserved t) 5 _ q13.1 in
    let q12 = passed_by (ltb 15 n) 11 _ q6.1 in
    let q10 = passed_by (ltb 3 level) 9 _ p.1 in
    let q15 = passed_by (address_bad addr) 14 _ q10.1 in
    let q16 = passed_by (ltb room (frame_length t (min (droppable_bits t) level))) 15 0 q15.1 in
    record {
      in_record = ltb-false 15 sseq q14.0;
      known = q6.0;
      quiet = ltb-false 15 n q12.0;
      inside = omega (arith, in_range addr q15.0);
      enough = ltb-false room (frame_length t (min (droppable_bits t) level)) q16.0;
    }
