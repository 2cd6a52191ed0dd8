-- Laws of a step: what it is of a legal record and of any other, and that the longest record's length of input decides it.
use Prim.Native.Nat.{ℕ, ◌+◌, ◌≤◌, ◌<◌}
use mathlib.Core.Path.{◌≡◌, refl, sym, ap, ◌∙◌}
use mathlib.Core.Bool.{Bool, true, false, ◌&&◌, and-false}
use mathlib.Core.List.{List, ◌++◌}
use native.Mathlib.Omega.{arith}
use lib.Dec.{leb, eqb}
use lib.ListN.{length, length-append, get_or-append}
use lib.Seq.{take-append-le}
use borrow.Author.Tests.{le-leb, leb-true, leb-false, ne_eqb}
use Rattle.octets.specs.Octets.{octet}
use Rattle.octets.specs.Records.{following, kind}
use Rattle.octets.proofs.BoolLaws.{and_true}
use Rattle.walking.specs.Text.{line, stop_line}
use Rattle.walking.specs.Walk.{Carried, Effect, step, allowed, legal, first, outcome, counted}

module _ (s : Carried) (r : List ℕ) where
  pub step_taken : legal r ≡ true → step s r ≡ record {
    carried = (outcome (counted s) (first r)).carried;
    taken = 2 + following r;
    line = line (outcome (counted s) (first r)).told;
    going = true;
  }
  unfolding step
  step_taken h = rw h

  pub step_stopped : legal r ≡ false → step s r ≡ record { carried = s; taken = 0; line = stop_line (s.number + 1); going = false }
  unfolding step
  step_stopped h = rw h

allowed_length : (kind n step : ℕ) → allowed kind n step ≡ true → n ≤ 1024
unfolding allowed
allowed_length kind n step h = go (leb n 1024) refl where
  go : (v : Bool) → leb n 1024 ≡ v → n ≤ 1024
  go true e = leb-true _ _ e
  go false e =
      let l : 1024 < n = leb-false _ _ e in
      let seven : eqb n 7 ≡ false = ne_eqb n 7 (λ q. omega arith) in
      let six : eqb n 6 ≡ false = ne_eqb n 6 (λ q. omega arith) in
      let no : false ≡ true = simp (e, seven, six, and-false) at h in
      let z : ◌≡◌ {A = ℕ} 0 1 = cc in omega arith

pub legal_whole : (r : List ℕ) → legal r ≡ true → 2 + following r ≤ length r
unfolding legal
legal_whole r h = leb-true _ _ (and_true (allowed (kind r) (following r) (octet 5 r)) (leb (2 + following r) (length r)) h).1

pub taken_within : (s : Carried) (r : List ℕ) → (step s r).taken ≤ length r
taken_within s r = go (legal r) refl where
  go : (v : Bool) → legal r ≡ v → (step s r).taken ≤ length r
  go true h = rw (step_taken s r h) (legal_whole r h)
  go false h = rw (step_stopped s r h) (omega arith)

pub taken_some : (s : Carried) (r : List ℕ) → (step s r).going ≡ true → 2 ≤ (step s r).taken
taken_some s r g = go (legal r) refl where
  go : (v : Bool) → legal r ≡ v → 2 ≤ (step s r).taken
  go true h = rw (step_taken s r h) (omega arith)
  go false h = let e : false ≡ true = ap (λ (x : Effect). x.going) (sym (step_stopped s r h)) ∙ g in let z : ◌≡◌ {A = ℕ} 0 1 = cc in omega arith

-- the longest record is all in the first 1,026 octets: what comes after them changes nothing
module _ (a b : List ℕ) (h : 1026 ≤ length a) where
  following_front : following (a ++ b) ≡ following a
  following_front = cc (get_or-append a b 0 0 (omega arith), get_or-append a b 0 1 (omega arith))

  kind_front : kind (a ++ b) ≡ kind a
  kind_front = cc (get_or-append a b 0 2 (omega arith), get_or-append a b 0 3 (omega arith))

  legal_front : legal (a ++ b) ≡ legal a
  unfolding legal
  legal_front = go (allowed (kind a) (following a) (octet 5 a)) refl where
    fields : allowed (kind (a ++ b)) (following (a ++ b)) (octet 5 (a ++ b)) ≡ allowed (kind a) (following a) (octet 5 a)
    fields = cc (following_front, kind_front, get_or-append a b 0 4 (omega arith))

    go : (v : Bool) → allowed (kind a) (following a) (octet 5 a) ≡ v
        → allowed (kind (a ++ b)) (following (a ++ b)) (octet 5 (a ++ b)) && leb (2 + following (a ++ b)) (length (a ++ b))
        ≡ allowed (kind a) (following a) (octet 5 a) && leb (2 + following a) (length a)
    go false e = simp (fields, e)
    go true e =
        let n : following a ≤ 1024 = allowed_length _ _ _ e in
        rw (fields, e, following_front) (le-leb (2 + following a) (length (a ++ b)) (rw length-append (omega arith)) ∙ sym (le-leb (2 + following a) (length a) (omega arith)))

  pub step_front : (s : Carried) → step s (a ++ b) ≡ step s a
  step_front s = go (legal a) refl where
    go : (v : Bool) → legal a ≡ v → step s (a ++ b) ≡ step s a
    go false e = step_stopped s (a ++ b) (legal_front ∙ e) ∙ sym (step_stopped s a e)
    go true e =
        let f : first (a ++ b) ≡ first a = rw following_front (take-append-le (2 + following a) a b (legal_whole a e)) in
        step_taken s (a ++ b) (legal_front ∙ e) ∙ rw (f, following_front) (sym (step_taken s a e))
