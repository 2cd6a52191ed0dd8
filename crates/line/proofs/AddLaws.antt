-- The writer: what is put, whether there is room for it, and the answer of each way out.
use Prim.Native.Nat.{ℕ, ◌+◌, ◌*◌, ◌/◌, ◌≤◌, ◌<◌}
use mathlib.Core.Path.{◌≡◌, refl, sym, ap, ap₂, ◌∙◌}
use mathlib.Core.Bool.{Bool, false, ◌||◌, cond}
use mathlib.Core.List.{List, [], ◌∷◌, ◌++◌, append_assoc}
use native.Mathlib.Nat.{le_refl}
use native.Mathlib.Omega.{arith}
use lib.Dec.{ltb, eqb, eqb-suc-zero}
use borrow.Author.Tests.{ltb-false, ne_eqb}
use lib.ListN.{length, get_or, take, drop, length-append}
use lib.Seq.{slice, take_all}
use Rattle.octets.proofs.BoolLaws.{or_false}
use Rattle.refusals.specs.Refusals.{number, refuse, refusal1}
use Rattle.refusals.specs.declared.Refusal.{Refusal}
use Rattle.refusals.proofs.RefusalLaws.{number_refuses, if_taken_lem, done_is, or_else_zero, refuse_zero}
use Rattle.bits.specs.Bits.{bits, lowest, octets_of}
use Rattle.bits.proofs.BitLaws.{length_bits, octets_of_bits}
use Rattle.zeros.specs.Zeros.{stuff}
use Rattle.zeros.specs.Parts.{More}
use Rattle.zeros.proofs.CarryLaws.{stuff_most}
use Rattle.line.specs.Line.{flag, put}
use Rattle.line.specs.Parts.{opened, sent_as}
use Rattle.line.specs.Calls.{past, over, news, Added, add_refusal, add_answer, add_bits, add_line}
use Rattle.line.proofs.RoomLaws.{fits, over_less}
use Rattle.line.proofs.FindLaws.{length_line}
use Rattle.zeros.proofs.PourLaws.{more_more}
use Rattle.line.proofs.MoreLaws.{behind}

-- ---- what is put

-- all bits of a frame
pub whole_frame : (f : List ℕ) → slice 0 (8 * length f) (bits f) ≡ bits f
whole_frame f = take_all (8 * length f) (bits f) (rw (length_bits f) (le_refl (8 * length f)))

line_after : (l : List Bool) (f : List ℕ) → l ++ put l f ≡ opened l ++ (sent_as f ++ flag)
unfolding put
line_after [] f = refl
line_after (b ∷ l) f = refl

opened_length : (l : List Bool) → length (opened l) ≡ cond (eqb (length l) 0) 8 (length l)
opened_length [] = refl
opened_length (b ∷ l) = rw (eqb-suc-zero (length l))

-- the count after, from where the frame's bits begin
pub count_after_lem : (buffer f : List ℕ) (count : ℕ) → count ≤ 8 * length buffer
    → count + length (news buffer count f) ≡ cond (eqb count 0) 8 count + (length (sent_as f) + 8)
count_after_lem buffer f count h =
    let l : List Bool = take count (bits buffer) in
    let ll : length l ≡ count = length_line buffer count h in
    let o : length (opened l) ≡ cond (eqb count 0) 8 count = opened_length l ∙ rw ll in
    omega (arith, length-append l (put l f), ap length (line_after l f), length-append (opened l) (sent_as f ++ flag), length-append (sent_as f) flag)

pub sent_most : (f : List ℕ) → 5 * length (sent_as f) ≤ 48 * length f
sent_most f = omega (arith, stuff_most (bits f), length_bits f)

-- what carrying all of a frame's bits asks
pub all_bits : (f : List ℕ) → length f ≤ 490 → (0 ≤ 8 * length f) × (8 * length f ≤ 8 * length f) × (8 * length f < 18446744073709551615)
    × (length (stuff 4 (slice 0 (8 * length f) (bits f))) < 18446744073709551616)
all_bits f h =
    (omega arith, omega arith, omega arith, omega (arith, sent_most f, ap (λ (b : List Bool). length (stuff 4 b)) (whole_frame f)))

-- room for the most that it may become is room for it
pub room_for_most : (n begin : ℕ) (f : List ℕ) → over n (begin + (8 * length f + 8 * length f / 5 + 8)) ≡ false → false ≡ over n (begin + (length (sent_as f) + 8))
room_for_most n begin f h = over_less n (begin + (length (sent_as f) + 8)) (begin + (8 * length f + 8 * length f / 5 + 8)) (omega (arith, sent_most f)) h

pub room_for_it : (n begin sent : ℕ) (f : List ℕ) (t : Bool) → sent ≡ length (sent_as f) → t ≡ over n (begin + (sent + 8)) → t ≡ over n (begin + (length (sent_as f) + 8))
room_for_it n begin sent f t e h = h ∙ ap (λ (m : ℕ). over n (begin + (m + 8))) e

-- where the frame's bits begin
pub begin_first : (count : ℕ) → count ≡ 0 → 8 ≡ cond (eqb count 0) 8 count
begin_first count z = rw z refl

pub begin_behind : (count : ℕ) → (count ≡ 0 → ⊥) → count ≡ cond (eqb count 0) 8 count
begin_behind count h = rw (ne_eqb count 0 h) refl

-- ---- the order

-- 16, where neither 14 nor 1 is judged
pub by_room : (buffer f : List ℕ) (count begin q : ℕ) (past-it full : Bool) → past-it ≡ past (length buffer) count → 0 ≡ refuse past-it 14 → 0 ≡ refusal1 (length f)
    → begin ≡ cond (eqb count 0) 8 count → full ≡ over (length buffer) (begin + (length (sent_as f) + 8)) → q ≡ refuse full 16 → q ≡ add_refusal buffer count f
unfolding add_refusal
by_room buffer f count begin q past-it full ep zp zs eb ef eq =
    let counted : past (length buffer) count ≡ false = sym ep ∙ refuse_zero past-it 13 (sym zp) in
    let n : begin + (length (sent_as f) + 8) ≡ count + length (news buffer count f) = rw eb (sym (count_after_lem buffer f count (ltb-false _ _ counted))) in
    rw (counted, ← zs) (eq ∙ ap (λ (b : Bool). refuse b 16) (ef ∙ ap (over (length buffer)) n))

pub small : (n : ℕ) → refusal1 n ≡ 0 → n ≤ 490
small n z = ltb-false _ _ (or_false (ltb n 10) _ (refuse_zero (ltb n 10 || ltb 490 n) 0 z)).1

-- ---- a frame that is not refused

pub record Taken (buffer f : List ℕ) (count : ℕ) : Type 0 where
  pub counted : count ≤ 8 * length buffer
  pub frame : length f ≤ 490
  pub room : cond (eqb count 0) 8 count + (length (sent_as f) + 8) ≤ 8 * length buffer
  pub countable : cond (eqb count 0) 8 count + (length (sent_as f) + 8) ≤ 18446744073709551615

pub taken : (buffer f : List ℕ) (count : ℕ) → add_refusal buffer count f ≡ 0 → Taken buffer f count
unfolding add_refusal
taken buffer f count z =
    let a = or_else_zero (refuse (past (length buffer) count) 14) _ z in
    let b = or_else_zero (refusal1 (length f)) _ a.1 in
    let c : count ≤ 8 * length buffer = ltb-false _ _ (refuse_zero (past (length buffer) count) 13 a.0) in
    let p = fits (length buffer) (count + length (news buffer count f)) (refuse_zero (over (length buffer) (count + length (news buffer count f))) 15 b.1) in
    record {
      counted = c;
      frame = small (length f) b.0;
      room = rw (← count_after_lem buffer f count c) p.0;
      countable = rw (← count_after_lem buffer f count c) p.1;
    }

module _ (buffer opened-line f : List ℕ) (count : ℕ) (z : add_refusal buffer count f ≡ 0) (at held n : ℕ)
    (first : More buffer opened-line 0 0 0 (opened (take count (bits buffer))) at held n) where
  abbrev l : List Bool
  l = take count (bits buffer)

  -- where the frame's bits begin
  pub begins_at : 8 * at + n ≡ cond (eqb count 0) 8 count
  begins_at =
      let o : length (opened l) ≡ cond (eqb count 0) 8 count = opened_length l ∙ rw (length_line buffer count (taken buffer f count z).counted) in
      omega (arith, first.far)

  module _ (carried-line : List ℕ) (at₂ held₂ n₂ : ℕ) (sent : More opened-line carried-line at held n (stuff 4 (slice 0 (8 * length f) (bits f))) at₂ held₂ n₂) where
    both : More buffer carried-line 0 0 0 (opened l ++ sent_as f) at₂ held₂ n₂
    both = more_more buffer opened-line carried-line 0 0 0 at held n at₂ held₂ n₂ (opened l) (sent_as f) first (rw (whole_frame f) at sent)

    -- where its closing flag begins
    pub closes_at : 8 * at₂ + n₂ ≡ cond (eqb count 0) 8 count + length (sent_as f)
    closes_at = omega (arith, sent.far, begins_at, ap (λ (b : List Bool). length (stuff 4 b)) (whole_frame f))

    pub written : (x : List Bool) → x ≡ bits (take at₂ carried-line) ++ lowest n₂ held₂ ++ flag ++ drop (8 * at₂ + n₂ + 8) (bits carried-line)
        → (8 * at₂ + n₂ + 8 ≡ (add_answer buffer count f).count) × (x ≡ add_bits buffer count f)
    unfolding add_answer add_bits bits lowest
    written x ex =
        let c : count ≤ 8 * length buffer = (taken buffer f count z).counted in
        let w : List Bool = news buffer count f in
        let end : 8 * at₂ + n₂ + 8 ≡ count + length w = omega (arith, closes_at, count_after_lem buffer f count c) in
        let e : 8 * at₂ + n₂ + 8 ≡ 8 * at₂ + (n₂ + 8) = omega arith in
        let rest : drop (8 * at₂ + n₂ + 8) (bits carried-line) ≡ drop (count + length w) (bits buffer) =
        ap (λ (k : ℕ). drop k (bits carried-line)) e ∙ behind buffer carried-line at₂ (n₂ + 8) both.rest ∙ ap (λ (k : ℕ). drop k (bits buffer)) (sym e ∙ end) in
        let line : (opened l ++ sent_as f) ++ flag ≡ l ++ w = append_assoc (opened l) (sent_as f) flag ∙ sym (line_after l f) in
        let all : x ≡ l ++ (w ++ drop (count + length w) (bits buffer)) =
        ex ∙ ap₂ (λ (u v : List Bool). u ++ flag ++ v) both.is rest ∙ ap (λ (u : List Bool). u ++ drop (count + length w) (bits buffer)) line
        ∙ append_assoc l w (drop (count + length w) (bits buffer)) in
        (end ∙ sym (ap (λ (a : Added). a.count) (if_taken_lem (add_refusal buffer count f) _ _ z)), done_is (add_refusal buffer count f) 0 _ _ x (sym z) refl all)

-- ---- the call

-- a buffer, each an octet, is what its bits are
whole : (buffer : List ℕ) → ((i : ℕ) → get_or buffer i 0 < 256) → buffer ≡ octets_of (length buffer) (bits buffer)
whole buffer o = sym (octets_of_bits buffer o)

pub add_refused : (buffer f : List ℕ) (count : ℕ) (r : Refusal) → ((i : ℕ) → get_or buffer i 0 < 256) → number r ≡ add_refusal buffer count f → buffer ≡ add_line buffer count f
unfolding add_line add_bits
add_refused buffer f count r o e = rw (← e, number_refuses r (take count (bits buffer) ++ (news buffer count f ++ drop (count + length (news buffer count f)) (bits buffer))) (bits buffer)) (whole buffer o)

pub add_taken : (buffer after f : List ℕ) (count : ℕ) → ((i : ℕ) → get_or after i 0 < 256) → length after ≡ length buffer → bits after ≡ add_bits buffer count f → after ≡ add_line buffer count f
unfolding add_line
add_taken buffer after f count o long e = whole after o ∙ ap₂ octets_of long e
