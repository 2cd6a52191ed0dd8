-- What holds of a frame once a question is answered no.
use Prim.Native.Nat.{ℕ, suc, ◌≤◌}
use mathlib.Core.Path.{◌≡◌, refl}
use mathlib.Core.Bool.{Bool, true, false, cond}
use mathlib.Core.List.{List}
use native.Mathlib.Omega.{arith}
use borrow.Author.Tests.{ltb-false}
use lib.Dec.{ltb}
use lib.ListN.{length}
use Rattle.octets.proofs.BoolLaws.{or_false}
use Rattle.refusals.proofs.RefusalLaws.{or_else_zero}
use Rattle.plain_order.specs.Order.{length_wrong, link_order, taken_order}

pub length_right : (f : List ℕ) → length_wrong f ≡ false → (10 ≤ length f) × (length f ≤ 490)
unfolding length_wrong
length_right f e = let p = or_false (ltb (length f) 10) (ltb 490 (length f)) e in (ltb-false (length f) 10 p.0, ltb-false 490 (length f) p.1)

-- a question that is answered no
pub passed_by : (w : Bool) (n r : ℕ) → cond w (suc n) r ≡ 0 → (w ≡ false) × (r ≡ 0)
passed_by true n r e = absurd (omega (arith, e))
passed_by false n r e = (refl, e)

pub linked_long : (f : List ℕ) → link_order f ≡ 0 → (10 ≤ length f) × (length f ≤ 490)
unfolding link_order
linked_long f e = length_right f (passed_by (length_wrong f) 0 _ e).0

pub taken_long : (f : List ℕ) → taken_order f ≡ 0 → (10 ≤ length f) × (length f ≤ 490)
unfolding taken_order
taken_long f e = linked_long f (or_else_zero (link_order f) _ e).0
