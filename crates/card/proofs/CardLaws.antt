-- What is known of slices that are long enough, and what a call answers and leaves in each lent slice where this form refuses, and where it does not.
use Prim.Native.Nat.{ℕ, ◌≤◌}
use mathlib.Core.Path.{◌≡◌, refl, sym, ap, subst, ◌∙◌}
use mathlib.Core.Bool.{not}
use mathlib.Core.List.{List, [], ◌∷◌, ◌++◌}
use native.Mathlib.Omega.{arith}
use lib.Dec.{eqb}
use lib.ListN.{length, drop, set}
use borrow.Author.Tests.{ltb-false, eqb-true, not-false}
use Rattle.refusals.specs.Refusals.{◌or_else◌, if_taken, refuse, refusal16}
use Rattle.refusals.proofs.RefusalLaws.{or_else_zero, or_else_take, or_else_pass, refuse_zero, refused_is, done_is}
use Rattle.card.specs.Card.{put, written}

pub roomy : {n l r : ℕ} → r ≡ refusal16 l n → r ≡ 0 → n ≤ l
roomy {n} {l} e z = ltb-false l n (refuse_zero _ 15 (sym e ∙ z))

pub roomy_two : (first n second m : ℕ) {r : ℕ} → r ≡ refusal16 first n or_else refusal16 second m → r ≡ 0 → (n ≤ first) × (m ≤ second)
roomy_two first n second m e z =
    let p = or_else_zero (refusal16 first n) (refusal16 second m) (sym e ∙ z) in
    (roomy {r = refusal16 first n} refl p.0, roomy {r = refusal16 second m} refl p.1)

pub sized : (k n : ℕ) {r : ℕ} → r ≡ refuse (not (eqb n k)) 14 → r ≡ 0 → n ≡ k
sized k n e z = eqb-true n k (not-false (eqb n k) (refuse_zero _ 13 (sym e ∙ z)))

-- a count that is known, of values that fit
pub within : {n k l : ℕ} → n ≡ k → n ≤ l → k ≤ l
within {l = l} e h = subst (λ (x : ℕ). x ≤ l) e h

-- an order whose parts are known
pub both : {r a b x y : ℕ} → r ≡ a or_else b → a ≡ x → b ≡ y → r ≡ x or_else y
both e p q = rw (← p, ← q) e

-- values before what stood behind them, as `octets::copy` leaves them
pub copied : {A : Type 0} (values slot x : List A) → x ≡ values ++ drop (length values) slot → x ≡ put values slot
unfolding put
copied values slot x e = e

-- one value, stored
pub stored : {A : Type 0} (x : A) (slot : List A) → 1 ≤ length slot → set slot 0 x ≡ put (x ∷ []) slot
unfolding put
stored x [] h = absurd (omega arith)
stored x (y ∷ slot) h = refl

-- r is the number that this form gives
module _ {A : Type 0} (flat r : ℕ) (values slot : List A) (e : r ≡ flat) where
  pub left_alone : (r ≡ 0 → ⊥) → slot ≡ written flat values slot
  unfolding written
  left_alone h = refused_is flat r _ _ slot e h refl

  pub answered : r ≡ 0 → (x : List A) → x ≡ put values slot → x ≡ written flat values slot
  unfolding written
  answered z x p = done_is flat r _ _ x e z p

  -- by values that are known to be these
  pub answered_by : r ≡ 0 → (x : List A) {y : List A} → x ≡ put y slot → y ≡ values → x ≡ written flat values slot
  answered_by z x p q = answered z x (p ∙ ap (λ (v : List A). put v slot) q)

-- a call that answers a number and writes numbers: refused by this form, and done
module _ (flat r number : ℕ) (numbers slot : List ℕ) (e : r ≡ flat) where
  pub not_called : (r ≡ 0 → ⊥) → (r ≡ flat or_else number) × (slot ≡ written flat numbers slot)
  not_called h = (or_else_take flat number r e h, left_alone flat r numbers slot e h)

  pub called : r ≡ 0 → (k : ℕ) (x : List ℕ) {y : List ℕ} → k ≡ number → x ≡ put y slot → y ≡ numbers
      → (k ≡ flat or_else number) × (x ≡ written flat numbers slot)
  called z k x n p q = (or_else_pass flat number r k e z n, answered_by flat r numbers slot e z x p q)

-- and that besides leaves something in a buffer that is lent
module _ (flat r number : ℕ) (numbers slot buffer out : List ℕ) (e : r ≡ flat) where
  pub untouched : (r ≡ 0 → ⊥) → (r ≡ flat or_else number) × ((slot ≡ written flat numbers slot) × (out ≡ if_taken flat buffer out))
  untouched h = let c = not_called flat r number numbers slot e h in (c.0, (c.1, refused_is flat r buffer out out e h refl))

  pub filled : r ≡ 0 → (k : ℕ) (x y : List ℕ) {v : List ℕ} → k ≡ number → x ≡ put v slot → v ≡ numbers → y ≡ buffer
      → (k ≡ flat or_else number) × ((x ≡ written flat numbers slot) × (y ≡ if_taken flat buffer out))
  filled z k x y n p q b = let c = called flat r number numbers slot e z k x n p q in (c.0, (c.1, done_is flat r buffer out y e z b))
