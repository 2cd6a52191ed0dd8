-- Counts and what a buffer has room for, where 8 times its length may not fit a number of the machine.
use Prim.Native.Nat.{ℕ, ◌+◌, ◌*◌, ◌/◌, ◌%◌, ◌≤◌, ◌<◌}
use mathlib.Core.Path.{◌≡◌, refl, sym, ap, ◌∙◌}
use mathlib.Core.Bool.{Bool, true, false, ◌||◌, or-true}
use native.Mathlib.Omega.{arith}
use lib.Dec.{ltb}
use borrow.Author.Tests.{lt-ltb, le-ltb, ltb-true, ltb-false}
use Rattle.octets.proofs.BoolLaws.{or_false}
use Rattle.line.specs.Calls.{past, over}

pub ltb_iff : (a b x y : ℕ) → (a < b → x < y) → (b ≤ a → y ≤ x) → ltb a b ≡ ltb x y
ltb_iff a b x y f g = go (ltb a b) refl
  where
    go : (t : Bool) → ltb a b ≡ t → ltb a b ≡ ltb x y
    go true e = e ∙ sym (lt-ltb x y (f (ltb-true a b e)))
    go false e = e ∙ sym (le-ltb x y (g (ltb-false a b e)))

pub past_is : (n count : ℕ) → ltb n (count / 8 + (count % 8 + 7) / 8) ≡ past n count
past_is n count = ltb_iff n (count / 8 + (count % 8 + 7) / 8) (8 * n) count (λ h. omega arith) (λ h. omega arith)

pub over_much : (n c : ℕ) → 18446744073709551615 < c → true ≡ over n c
over_much n c h = sym (or-true (past n c)) ∙ sym (ap (λ (t : Bool). past n c || t) (lt-ltb 18446744073709551615 c h))

pub over_not : (n c : ℕ) (p : Bool) → c ≤ 18446744073709551615 → p ≡ past n c → p ≡ over n c
over_not n c p h e = e ∙ sym (ap (λ (t : Bool). past n c || t) (le-ltb 18446744073709551615 c h) ∙ or_none (past n c))
  where
    or_none : (t : Bool) → (t || false) ≡ t
    or_none true = refl
    or_none false = refl

pub fits : (n c : ℕ) → over n c ≡ false → (c ≤ 8 * n) × (c ≤ 18446744073709551615)
fits n c h = let p = or_false (past n c) _ h in (ltb-false _ _ p.0, ltb-false _ _ p.1)

-- where more has room, less has
pub over_less : (n c d : ℕ) → c ≤ d → over n d ≡ false → false ≡ over n c
over_less n c d l h =
    let p = fits n d h in
    over_not n c false (omega (arith, p.1)) (sym (le-ltb (8 * n) c (omega (arith, p.0))))
