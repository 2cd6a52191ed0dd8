-- How the orders are judged in steps, and what is known of a frame that nothing refuses, both ways.
use Prim.Native.Nat.{ℕ, ◌+◌, ◌-◌, ◌*◌, ◌%◌, ◌≤◌}
use mathlib.Core.Path.{◌≡◌, refl, sym, ap, ap₂, ◌∙◌}
use mathlib.Core.Bool.{Bool, true, false, ◌&&◌, ◌||◌, not, cond}
use mathlib.Core.List.{List}
use native.Mathlib.Omega.{arith}
use lib.Dec.{ltb, eqb}
use lib.ListN.{length}
use borrow.Author.Tests.{ltb-false, eqb-true, le-ltb, eq-eqb, not-false}
use Rattle.octets.specs.Octets.{octet}
use Rattle.octets.proofs.BoolLaws.{or_false}
use Rattle.refusals.specs.Refusals.{◌or_else◌, refuse, address_bad, refusal1}
use Rattle.refusals.proofs.RefusalLaws.{or_else_zero, or_else_take, or_else_pass, or_else_assoc, refuse_zero, in_range, range_in}
use Rattle.fcs.specs.Fcs.{fcs_good}
use Rattle.coding.specs.Coding.{sample_bits, droppable_bits, reserved}
use Rattle.coding.proofs.CodingLaws.{s_le_8}
use Rattle.frame.specs.Fields.{address, command_bit, poll_bit, control, is_voice, field_m, field_c, stamp, coding, covered}
use Rattle.frame.specs.Orders.{refusal2, refusal3, refusal24, refusal4, refusal5, refusal7, refusal8, refusal9, refusal19, legal_length, link_refusal, layout_refusal, taken_refusal, voice_refusal, signal_refusal}

-- 1, 2, 3 and 24, which cost no sum
abbrev pub form_refusal : List ℕ → ℕ
form_refusal f = refusal1 (length f) or_else refusal2 f or_else refusal3 f or_else refusal24 f

-- 4 and 5
abbrev pub sum_refusal : List ℕ → ℕ
sum_refusal f = refusal4 f or_else refusal5 f

-- 1, 2, 3 and 24 are judged together, and then 4 and 5
pub link_parts : (f : List ℕ) → link_refusal f ≡ form_refusal f or_else sum_refusal f
unfolding link_refusal
link_parts f =
    ap (λ (r : ℕ). refusal1 (length f) or_else refusal2 f or_else r) (or_else_assoc (refusal3 f) (refusal24 f) (sum_refusal f))
    ∙ ap (λ (r : ℕ). refusal1 (length f) or_else r) (or_else_assoc (refusal2 f) (refusal3 f or_else refusal24 f) (sum_refusal f))
    ∙ or_else_assoc (refusal1 (length f)) (refusal2 f or_else refusal3 f or_else refusal24 f) (sum_refusal f)

-- and whatever comes after them
link_then : (f : List ℕ) (n : ℕ) → form_refusal f or_else (sum_refusal f or_else n) ≡ link_refusal f or_else n
link_then f n = or_else_assoc (form_refusal f) (sum_refusal f) n ∙ ap (λ (r : ℕ). r or_else n) (sym (link_parts f))

-- the link's order gives 0 or one of its numbers: what holds of each holds of what it gives
pub by_link : (P : ℕ → Type 0) (f : List ℕ) → P 0 → P 1 → P 2 → P 3 → P 24 → P 4 → P 5 → P (link_refusal f)
unfolding link_refusal
by_link P f p0 p1 p2 p3 p24 p4 p5 =
    go (ltb (length f) 10 || ltb 490 (length f)) (not (eqb (octet 1 f % 2) 0) || not (eqb (octet 2 f % 2) 1) || address_bad (address f))
    (not (eqb (control f) 239) && not (eqb (control f) 3)) (not (eqb (command_bit f) 0) || not (eqb (poll_bit f) 0))
    (not (fcs_good (covered f) f)) (not (eqb (octet 4 f) 68))
  where
    go : (t1 t2 t3 t24 t4 t5 : Bool) → P (refuse t1 1 or_else refuse t2 2 or_else refuse t3 3 or_else refuse t24 24 or_else refuse t4 4 or_else refuse t5 5)
    go true t2 t3 t24 t4 t5 = p1
    go false true t3 t24 t4 t5 = p2
    go false false true t24 t4 t5 = p3
    go false false false true t4 t5 = p24
    go false false false false true t5 = p4
    go false false false false false true = p5
    go false false false false false false = p0

-- what holds of voice and of signalling holds of a frame
pub by_kind : {P : Type 0} (f : List ℕ) → (is_voice f ≡ true → P) → (is_voice f ≡ false → P) → P
by_kind {P} f voice signalling = go (is_voice f) refl where
  go : (v : Bool) → is_voice f ≡ v → P
  go true e = voice e
  go false e = signalling e

-- two numbers judged one by one, then put in order
pub in_order : (a b x y n : ℕ) → x ≡ a → y ≡ b → n ≡ x or_else y → n ≡ a or_else b
in_order a b x y n p q e = e ∙ ap₂ ◌or_else◌ p q

-- what stands at each return of an order that begins with the link's numbers: the form's, the sum's, or the rest n
module _ (f : List ℕ) (form : ℕ) (form-is : form ≡ form_refusal f) where
  pub at_form : (n : ℕ) → (form ≡ 0 → ⊥) → form ≡ link_refusal f or_else n
  at_form n h = or_else_take (form_refusal f) (sum_refusal f or_else n) form form-is h ∙ link_then f n

  past_form : (n r : ℕ) → form ≡ 0 → r ≡ sum_refusal f or_else n → r ≡ link_refusal f or_else n
  past_form n r z e = or_else_pass (form_refusal f) (sum_refusal f or_else n) form r form-is z e ∙ link_then f n

  pub at_sum : (sum n : ℕ) → form ≡ 0 → sum ≡ sum_refusal f → (sum ≡ 0 → ⊥) → sum ≡ link_refusal f or_else n
  at_sum sum n z e h = past_form n sum z (or_else_take (sum_refusal f) n sum e h)

  pub past_sum : (sum n r : ℕ) → form ≡ 0 → sum ≡ sum_refusal f → sum ≡ 0 → r ≡ n → r ≡ link_refusal f or_else n
  past_sum sum n r z e s h = past_form n r z (or_else_pass (sum_refusal f) n sum r e s h)

  -- the same in a call of one kind, where 19 is judged with the sum and after it
  pub at_call : (call : Bool) (sum other first n : ℕ) → form ≡ 0 → sum ≡ sum_refusal f → other ≡ refusal19 call f → first ≡ sum or_else other → (first ≡ 0 → ⊥)
      → first ≡ link_refusal f or_else refusal19 call f or_else n
  at_call call sum other first n z p q e h =
      past_form (refusal19 call f or_else n) first z
      (or_else_take (sum_refusal f or_else refusal19 call f) n first (in_order (sum_refusal f) (refusal19 call f) sum other first p q e) h ∙ sym (or_else_assoc (sum_refusal f) (refusal19 call f) n))

  pub past_call : (call : Bool) (sum other first n r : ℕ) → form ≡ 0 → sum ≡ sum_refusal f → other ≡ refusal19 call f → first ≡ sum or_else other → first ≡ 0 → r ≡ n
      → r ≡ link_refusal f or_else refusal19 call f or_else n
  past_call call sum other first n r z p q e s h =
      past_form (refusal19 call f or_else n) r z
      (or_else_pass (sum_refusal f or_else refusal19 call f) n first r (in_order (sum_refusal f) (refusal19 call f) sum other first p q e) s h ∙ sym (or_else_assoc (sum_refusal f) (refusal19 call f) n))

-- 1 to 5 with 24
pub record Linked (f : List ℕ) : Type 0 where
  pub long : 10 ≤ length f
  pub short : length f ≤ 490
  pub bit1 : octet 1 f % 2 ≡ 0
  pub bit2 : octet 2 f % 2 ≡ 1
  pub addr_low : 128 ≤ address f
  pub addr_high : address f ≤ 8063
  pub known : (not (eqb (control f) 239) && not (eqb (control f) 3)) ≡ false
  pub command : command_bit f ≡ 0
  pub poll : poll_bit f ≡ 0
  pub check : fcs_good (covered f) f ≡ true
  pub ident : octet 4 f ≡ 68

-- 7, 8, 9
pub record LaidOut (f : List ℕ) : Type 0 where
  pub m_is_d : field_m f ≡ cond (is_voice f) (droppable_bits (coding f)) 0
  pub c_le_m : field_c f ≤ field_m f
  pub size : length f ≡ legal_length f
  pub stamped : stamp f ≤ 200

-- what a node takes: 1 to 9 with 24
pub record Passes (f : List ℕ) : Type 0 where
  pub linked : Linked f
  pub coded : (is_voice f && reserved (coding f)) ≡ false
  pub laid : LaidOut f

pub link_passes : (f : List ℕ) → link_refusal f ≡ 0 → Linked f
unfolding link_refusal
link_passes f h =
    let q1 = or_else_zero _ _ h in
    let q2 = or_else_zero _ _ q1.1 in
    let q3 = or_else_zero _ _ q2.1 in
    let q24 = or_else_zero _ _ q3.1 in
    let q4 = or_else_zero _ _ q24.1 in
    let t1 = or_false _ _ (refuse_zero _ 0 q1.0) in
    let t2 = or_false _ _ (refuse_zero _ 1 q2.0) in
    let t2' = or_false _ _ t2.0 in
    let t2r = in_range _ t2.1 in
    let t24 = or_false _ _ (refuse_zero _ 23 q24.0) in
    record {
      long = ltb-false _ _ t1.0;
      short = ltb-false _ _ t1.1;
      bit1 = eqb-true _ _ (not-false _ t2'.0);
      bit2 = eqb-true _ _ (not-false _ t2'.1);
      addr_low = t2r.0;
      addr_high = t2r.1;
      known = refuse_zero _ 2 q3.0;
      command = eqb-true _ _ (not-false _ t24.0);
      poll = eqb-true _ _ (not-false _ t24.1);
      check = not-false _ (refuse_zero _ 3 q4.0);
      ident = eqb-true _ _ (not-false _ (refuse_zero _ 4 q4.1));
    }

pub layout_passes : (f : List ℕ) → layout_refusal f ≡ 0 → LaidOut f
unfolding layout_refusal
layout_passes f h =
    let q7 = or_else_zero _ _ h in
    let q8 = or_else_zero _ _ q7.1 in
    let t7 = or_false _ _ (refuse_zero _ 6 q7.0) in
    record {
      m_is_d = eqb-true _ _ (not-false _ t7.0);
      c_le_m = ltb-false _ _ t7.1;
      size = eqb-true _ _ (not-false _ (refuse_zero _ 7 q8.0));
      stamped = ltb-false _ _ (refuse_zero _ 8 q8.1);
    }

pub passes : (f : List ℕ) → taken_refusal f ≡ 0 → Passes f
unfolding taken_refusal
passes f h =
    let p = or_else_zero _ _ h in
    let q = or_else_zero _ _ p.1 in
    record { linked = link_passes f p.0; coded = refuse_zero _ 5 q.0; laid = layout_passes f q.1 }

pub link_passed : (f : List ℕ) → Linked f → link_refusal f ≡ 0
unfolding link_refusal
link_passed f p =
    simp (
      le-ltb _ _ p.long,
      le-ltb _ _ p.short,
      eq-eqb _ _ p.bit1,
      eq-eqb _ _ p.bit2,
      range_in _ p.addr_low p.addr_high,
      p.known,
      eq-eqb _ _ p.command,
      eq-eqb _ _ p.poll,
      p.check,
      eq-eqb _ _ p.ident,
    )

pub layout_passed : (f : List ℕ) → LaidOut f → layout_refusal f ≡ 0
unfolding layout_refusal
layout_passed f p = simp (eq-eqb _ _ p.m_is_d, le-ltb _ _ p.c_le_m, eq-eqb _ _ p.size, le-ltb _ _ p.stamped)

pub passed : (f : List ℕ) → Passes f → taken_refusal f ≡ 0
unfolding taken_refusal
passed f p = simp (link_passed f p.linked, p.coded, layout_passed f p.laid)

-- a frame that a node takes is at most 138 octets long
most : (v r : Bool) (n S d : ℕ) → S ≤ 8 → n ≡ cond v (cond r 0 (16 * (S - d) + 10)) 10 → n ≤ 138
most true true n S d h e = omega arith
most true false n S d h e = omega arith
most false r n S d h e = omega arith

pub taken_short : (f : List ℕ) → taken_refusal f ≡ 0 → length f ≤ 138
taken_short f h = most (is_voice f) (reserved (coding f)) (length f) (sample_bits (coding f)) (field_m f - field_c f) (s_le_8 (coding f)) (passes f h).laid.size

-- a voice frame that a node takes, a voice call takes, and the reverse
pub voice_taken : (f : List ℕ) → voice_refusal f ≡ 0 → Passes f × (is_voice f ≡ true)
unfolding voice_refusal
voice_taken f h =
    let p = or_else_zero _ _ h in
    let q = or_else_zero _ _ p.1 in
    let r = or_else_zero _ _ q.1 in
    (record { linked = link_passes f p.0; coded = refuse_zero _ 5 r.0; laid = layout_passes f r.1 }, not-false _ (refuse_zero _ 18 q.0))

pub taken_voice : (f : List ℕ) → Passes f → is_voice f ≡ true → voice_refusal f ≡ 0
unfolding voice_refusal
taken_voice f p v = simp (link_passed f p.linked, p.coded, layout_passed f p.laid) (rw v)

-- the same of signalling
pub signal_taken : (f : List ℕ) → signal_refusal f ≡ 0 → Linked f × LaidOut f × (is_voice f ≡ false)
unfolding signal_refusal
signal_taken f h =
    let p = or_else_zero _ _ h in
    let q = or_else_zero _ _ p.1 in
    (link_passes f p.0, layout_passes f q.1, refuse_zero _ 18 q.0)

-- 7, 8 and 9 of the numbers that they go by
seven : (m most c m' most' c' : ℕ) → m ≡ m' → most ≡ most' → c ≡ c' → refuse (not (eqb m most) || ltb m c) 7 ≡ refuse (not (eqb m' most') || ltb m' c') 7
seven m most c m' most' c' p q r = ap₂ (λ (x y : ℕ). refuse (not (eqb x y) || ltb x c) 7) p q ∙ ap (λ (x : ℕ). refuse (not (eqb m' most') || ltb m' x) 7) r

pub laid : (f : List ℕ) (m c len st most whole r7 r8 r9 u n : ℕ) → m ≡ field_m f → c ≡ field_c f → len ≡ length f → st ≡ stamp f
    → most ≡ cond (is_voice f) (droppable_bits (coding f)) 0 → whole ≡ legal_length f
    → r7 ≡ refuse (not (eqb m most) || ltb m c) 7 → r8 ≡ refuse (not (eqb len whole)) 8 → r9 ≡ refuse (ltb 200 st) 9 → u ≡ r8 or_else r9 → n ≡ r7 or_else u
    → n ≡ layout_refusal f
unfolding layout_refusal
laid f m c len st most whole r7 r8 r9 u n em ec el es eM eW e7 e8 e9 eu en =
    let at7 : r7 ≡ refusal7 f = e7 ∙ seven m most c (field_m f) (cond (is_voice f) (droppable_bits (coding f)) 0) (field_c f) em eM ec in
    let at8 : r8 ≡ refusal8 f = e8 ∙ ap₂ (λ (x y : ℕ). refuse (not (eqb x y)) 8) el eW in
    let at9 : r9 ≡ refusal9 f = e9 ∙ ap (λ (x : ℕ). refuse (ltb 200 x) 9) es in
    in_order (refusal7 f) (refusal8 f or_else refusal9 f) r7 u n at7 (in_order (refusal8 f) (refusal9 f) r8 r9 u at8 at9 eu) en
