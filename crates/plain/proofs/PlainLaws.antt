-- What holds of a call's inputs once nothing is refused.
use Prim.Native.Nat.{ℕ, ◌≤◌, ◌<◌}
use mathlib.Core.Path.{◌≡◌}
use mathlib.Core.List.{List}
use native.Mathlib.Omega.{arith}
use borrow.Author.Tests.{ltb-false}
use lib.Dec.{ltb}
use lib.ListN.{length}
use Rattle.refusals.specs.Refusals.{address_bad}
use Rattle.refusals.proofs.RefusalLaws.{or_else_zero, in_range}
use Rattle.plain_order.specs.Order.{link_order, taken_order, read_order}
use Rattle.plain_order.proofs.OrderLaws.{passed_by, taken_long, linked_long}
use Rattle.plain_passes.specs.Passes.{drop_pass}
use Rattle.plain.specs.Forward.{forward_order}

pub record ForwardTaken (level addr : ℕ) (f : List ℕ) (room : ℕ) : Type 0 where
  pub long : 10 ≤ length f
  pub inside : addr < 8192
  pub enough : length (drop_pass level f) ≤ room

pub forward_taken : (level addr : ℕ) (f : List ℕ) (room : ℕ) → forward_order level addr f room ≡ 0 → ForwardTaken level addr f room
unfolding forward_order
forward_taken level addr f room e =
    let a = (passed_by (ltb 3 level) 9 _ e).1 in
    let b = passed_by (address_bad addr) 14 _ a in
    let t = or_else_zero (taken_order f) _ b.1 in
    let w = (passed_by (ltb room (length (drop_pass level f))) 15 0 t.1).0 in
    record {
      long = (taken_long f t.0).0;
      inside = omega (arith, in_range addr b.0);
      enough = ltb-false room (length (drop_pass level f)) w;
    }

pub read_long : (f : List ℕ) → read_order f ≡ 0 → 10 ≤ length f
unfolding read_order
read_long f e = (linked_long f (or_else_zero (link_order f) _ e).0).0
