-- What the whole call answers and leaves: refused, and done.
use Prim.Native.Nat.{ℕ, ◌≤◌}
use mathlib.Core.Path.{◌≡◌, refl, sym, ap, ap₂, ◌∙◌}
use mathlib.Core.Bool.{Bool, true, false, ◌||◌}
use mathlib.Core.List.{List, [], ◌∷◌, ◌++◌}
use native.Mathlib.Omega.{arith}
use lib.Dec.{ltb}
use lib.ListN.{length, take, drop}
use lib.Seq.{length-take-le}
use borrow.Author.Tests.{le-ltb, ltb-false}
use Rattle.octets.proofs.BoolLaws.{or_false}
use Rattle.refusals.specs.Refusals.{refuse}
use Rattle.refusals.proofs.RefusalLaws.{refuse_zero, if_taken_lem, if_refused}
use Rattle.onward.specs.Sent.{sent_buffer}
use Rattle.tray.specs.Tray.{read, tray_refusal, numbers, outgoing, tray_answer, tray_buffer, tray_list}

-- a tray is not refused where nothing is left behind its records and the list has a place for each, and nowhere else
none_left : (l : List ℕ) → length l ≤ 0 → l ≡ []
none_left [] h = refl
none_left (x ∷ l) h = absurd (omega arith)

pub whole_tray : (tray : List ℕ) (places : ℕ) → (read tray).left ≡ [] → length (read tray).frames ≤ places → tray_refusal tray places ≡ 0
unfolding tray_refusal
whole_tray tray places l h =
    ap (λ (b : Bool). refuse (ltb 0 (length (read tray).left) || b) 27) (le-ltb _ _ h) ∙ ap (λ (r : List ℕ). refuse (ltb 0 (length r) || false) 27) l

pub tray_whole : (tray : List ℕ) (places : ℕ) → tray_refusal tray places ≡ 0 → ((read tray).left ≡ []) × (length (read tray).frames ≤ places)
unfolding tray_refusal
tray_whole tray places z =
    let p = or_false (ltb 0 (length (read tray).left)) (ltb places (length (read tray).frames)) (refuse_zero _ 26 z) in
    (none_left (read tray).left (ltb-false _ _ p.0), ltb-false _ _ p.1)

only_27 : (tray : List ℕ) (places : ℕ) → (tray_refusal tray places ≡ 0 → ⊥) → tray_refusal tray places ≡ 27
unfolding tray_refusal
only_27 tray places = go (ltb 0 (length (read tray).left) || ltb places (length (read tray).frames)) where
  go : (b : Bool) → (refuse b 27 ≡ 0 → ⊥) → refuse b 27 ≡ 27
  go true h = refl
  go false h = absurd (h refl)

module _ (level wait addr : ℕ) where
  -- a tray that is refused gets 27: zeros in the answer, and nothing written
  pub refused_whole : (tray out list : List ℕ) → (tray_refusal tray (length list) ≡ 0 → ⊥)
      → (tray_answer level wait addr tray out list ≡ record { refusal = 27; records = 0; written = 0 })
      × (tray_buffer level wait addr tray out list ≡ out) × (tray_list level wait addr tray out list ≡ list)
  unfolding tray_answer tray_buffer tray_list sent_buffer
  refused_whole tray out list h =
      let q : ℕ = tray_refusal tray (length list) in
      (if_refused q _ _ h ∙ ap (λ (n : ℕ). record { refusal = n; records = 0; written = 0 }) (only_27 tray (length list) h), if_refused q _ _ h, if_refused q _ _ h)

  module _ (tray out list : List ℕ) (z : tray_refusal tray (length list) ≡ 0) where
    pub done_answer : tray_answer level wait addr tray out list
        ≡ record { refusal = 0; records = length (read tray).frames; written = length (outgoing level wait addr tray (length out)) }
    unfolding tray_answer
    done_answer = if_taken_lem (tray_refusal tray (length list)) _ _ z

    pub done_buffer : tray_buffer level wait addr tray out list ≡ outgoing level wait addr tray (length out) ++ drop (length (outgoing level wait addr tray (length out))) out
    unfolding tray_buffer sent_buffer
    done_buffer = if_taken_lem (tray_refusal tray (length list)) _ _ z

    pub done_list : tray_list level wait addr tray out list ≡ numbers level wait addr tray (length out) ++ drop (length (numbers level wait addr tray (length out))) list
    unfolding tray_list sent_buffer
    done_list = if_taken_lem (tray_refusal tray (length list)) _ _ z

-- the list's first `count` places are lent, and come back as `all`
pub front_lent : (list p all : List ℕ) (count : ℕ) → count ≤ length list → length p ≡ length (take count list) → p ≡ all
    → p ++ drop count list ≡ all ++ drop (length all) list
front_lent list p all count h e a =
    let n : count ≡ length all = sym (length-take-le count list h) ∙ sym e ∙ ap length a in
    ap₂ (λ (x : List ℕ) (k : ℕ). x ++ drop k list) a n

-- the same of a number r that is known to be the refusal, as the code has it
module _ (level wait addr : ℕ) (tray out list : List ℕ) (r : ℕ) (e : r ≡ tray_refusal tray (length list)) where
  pub call_refused : (r ≡ 0 → ⊥)
      → (record { refusal = r; records = 0; written = 0 } ≡ tray_answer level wait addr tray out list)
      × ((out ≡ tray_buffer level wait addr tray out list) × (list ≡ tray_list level wait addr tray out list))
  call_refused h =
      let w = refused_whole level wait addr tray out list (λ z. h (e ∙ z)) in
      let n : r ≡ 27 = e ∙ only_27 tray (length list) (λ z. h (e ∙ z)) in
      (ap (λ (k : ℕ). record { refusal = k; records = 0; written = 0 }) n ∙ sym w.0, (sym w.1, sym w.2))

  pub call_done : r ≡ 0 → (count written : ℕ) (x y : List ℕ) → count ≡ length (read tray).frames
      → written ≡ length (outgoing level wait addr tray (length out))
      → x ≡ outgoing level wait addr tray (length out) ++ drop (length (outgoing level wait addr tray (length out))) out
      → y ≡ numbers level wait addr tray (length out) ++ drop (length (numbers level wait addr tray (length out))) list
      → (record { refusal = 0; records = count; written = written } ≡ tray_answer level wait addr tray out list)
      × ((x ≡ tray_buffer level wait addr tray out list) × (y ≡ tray_list level wait addr tray out list))
  call_done h count written x y ec ew ex ey =
      let z = sym e ∙ h in (
        ap₂ (λ (i j : ℕ). record { refusal = 0; records = i; written = j }) ec ew ∙ sym (done_answer level wait addr tray out list z),
        (ex ∙ sym (done_buffer level wait addr tray out list z), ey ∙ sym (done_list level wait addr tray out list z)),
      )
