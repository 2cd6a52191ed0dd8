-- Of each public promise, two outcomes that it allows are equal: the answer, and every octet of what is lent.
use Rattle.std.specs.Prelude.{ℕ, Bool, true, false, Option, Some, None, Result, Ok, Err, is_some, unwrap_or}
use Rattle.std.proofs.Common.{◌≡◌, refl, sym, ap, ap₂, ◌∙◌}
use contract.Lifetimes.{Lfts}
use Rattle.octets.proofs.BoolLaws.{one_outcome}
use Rattle.refusals.specs.declared.Refusal.{Refusal}
use Rattle.refusals.proofs.RefusalLaws.{number_one, result_one}
use Rattle.line.specs.Calls.{Added, TakenOff, added_paper, taken_off_paper, tells_place}
use Rattle.line.specs.declared.Found.{Found}
use Rattle.line.specs.declared.Stopped.{Stopped}
use Rattle.line.proofs.PlaceLaws.{no_zero}
use Rattle.line.proofs.add.Reads as add
use Rattle.line.proofs.next.Reads as next

pub add_one : (κs : Lfts 2) (a r r' s s' : _) → add.Post κs a r s → add.Post κs a r' s' → (r ≡ r') × (s.0.now ≡ s'.0.now)
add_one κs a r r' s s' p q =
    (result_one added_paper (λ (x : Added). x.refusal) (λ (x : Added). x.count) (λ a. refl) (λ a. refl) (λ a. refl) r r' (one_outcome p.0 q.0), one_outcome p.1 q.1)

-- only one answer has the number and the values of a taking off, and a place beside its number or none
frame_of : TakenOff → Option Found
frame_of a = found a.found
  where
    found : Bool → Option Found
    found true = Some (record { length = a.length; place = a.place })
    found false = None

frame_back : (o : Option Found) → frame_of (taken_off_paper (Ok o)) ≡ o
unfolding frame_of
frame_back None = refl
frame_back (Some f) = refl

no_number : (o : Option Found) → (taken_off_paper (Ok o)).refusal ≡ 0
no_number None = refl
no_number (Some f) = refl

place_one : (p q : Option ℕ) → is_some p ≡ is_some q → unwrap_or p 0 ≡ unwrap_or q 0 → p ≡ q
place_one None None t e = refl
place_one None (Some q) t e = cc
place_one (Some p) None t e = cc
place_one (Some p) (Some q) t e = ap Some e

taken_off_one : (x y : Result (Option Found) Stopped) → tells_place x ≡ tells_place y → taken_off_paper x ≡ taken_off_paper y → x ≡ y
taken_off_one (Ok a) (Ok b) t e = ap Ok (sym (frame_back a) ∙ ap frame_of e ∙ frame_back b)
taken_off_one (Ok a) (Err s) t e = absurd (no_zero s.refusal (sym (no_number a) ∙ ap (λ (x : TakenOff). x.refusal) e))
taken_off_one (Err r) (Ok b) t e = absurd (no_zero r.refusal (sym (no_number b) ∙ ap (λ (x : TakenOff). x.refusal) (sym e)))
taken_off_one (Err r) (Err s) t e =
    let p : r.place ≡ s.place = place_one r.place s.place t (ap (λ (x : TakenOff). x.place) e) in
    let n : r.refusal ≡ s.refusal = number_one r.refusal s.refusal (ap (λ (x : TakenOff). x.refusal) e) in
    ap₂ (λ (n : Refusal) (p : Option ℕ). Err (record { refusal = n; place = p })) n p

pub next_one : (κs : Lfts 2) (a r r' s s' : _) → next.Post κs a r s → next.Post κs a r' s' → (r ≡ r') × (s.1.1.1.0.now ≡ s'.1.1.1.0.now)
next_one κs a r r' s s' p q = (taken_off_one r r' (one_outcome p.1.0 q.1.0) (one_outcome p.0 q.0), one_outcome p.1.1 q.1.1)
