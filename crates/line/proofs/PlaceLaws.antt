-- Beside which numbers the reader tells a place.
use Prim.Native.Nat.{ℕ, ◌/◌, ◌%◌}
use mathlib.Core.Path.{◌≡◌, refl, sym, ap, ◌∙◌}
use mathlib.Core.Bool.{Bool, true, false, ◌||◌, not}
use native.Mathlib.Omega.{arith}
use lib.Dec.{ltb, eqb}
use Rattle.refusals.specs.Refusals.{◌or_else◌, number, refuse, refusal16}
use Rattle.refusals.specs.declared.Refusal.{Refusal}
use Rattle.refusals.proofs.RefusalLaws.{number_positive, refuse_zero}
use Rattle.line.specs.Line.{between_refusal}
use Rattle.line.specs.Calls.{past, place_told}
use Rattle.line.specs.declared.Found.{Found}
use Rattle.line.specs.declared.Stopped.{Stopped}
use Rattle.std.specs.Prelude.{◌≤◌, ◌<◌, Option, None, Result, Ok, Err, IsErr, IsErrAnd}
use Rattle.octets.proofs.BoolLaws.{or_false}
use borrow.Author.Tests.{ltb-false, ltb-true}

pub no_zero : (r : Refusal) → 0 ≡ number r → ⊥
no_zero r e = let p = number_positive r in omega (arith, e, p)

-- of bits left over, an abort and a size that is refused
by_tests : (r : Refusal) (left aborted size : Bool) → number r ≡ refuse left 22 or_else refuse aborted 23 or_else refuse size 1 → true ≡ place_told (number r)
by_tests r true aborted size e = sym (ap place_told e)
by_tests r false true size e = sym (ap place_told e)
by_tests r false false true e = sym (ap place_told e)
by_tests r false false false e = absurd (no_zero r (sym e))

-- what stands behind a flag and is no frame has a place where it ends
pub beside : (n : ℕ) (r : Refusal) (aborted : Bool) → number r ≡ between_refusal aborted n → true ≡ place_told (number r)
unfolding between_refusal
beside n r aborted e = by_tests r (not (eqb (n % 8) 0)) aborted (ltb (n / 8) 10 || ltb 490 (n / 8)) e

-- what refuses the call itself
pub call_refused : (x : Result (Option Found) Stopped) (r : Refusal) → IsErr x × IsErrAnd x (λ s. s ≡ record { refusal = r; place = None })
    → x ≡ Err (record { refusal = r; place = None })
call_refused (Ok a) r e = let z : ◌≡◌ {A = Bool} false true = e.0 in cc
call_refused (Err s) r e = ap Err e.1

-- what the tests of the call say, where they refuse it and where not
pub allowed : (n count place : ℕ) (t : Bool) → t ≡ past n count → 0 ≡ refuse (t || ltb count place) 14 → (past n count ≡ false) × (place ≤ count)
allowed n count place t e h =
    let p = or_false t (ltb count place) (refuse_zero (t || ltb count place) 13 (sym h)) in
    (sym e ∙ p.0, ltb-false _ _ p.1)

pub refused_by : (r : Refusal) (t : Bool) (n : ℕ) → number r ≡ refuse t n → (number r ≡ n) × (t ≡ true)
refused_by r true n e = (e, refl)
refused_by r false n e = absurd (no_zero r (sym e))

pub short_of : (r : Refusal) (room n : ℕ) → number r ≡ refusal16 room n → (number r ≡ 16) × (room < n)
short_of r room n e = let b = refused_by r (ltb room n) 16 e in (b.0, ltb-true room n b.1)

pub room_for : (room n : ℕ) → 0 ≡ refusal16 room n → n ≤ room
room_for room n e = ltb-false room n (refuse_zero (ltb room n) 15 (sym e))
