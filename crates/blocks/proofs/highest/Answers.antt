use mathlib.Core.Path.{◌≡◌, sym, ◌∙◌}
use Prim.Native.Nat.{ℕ, ◌*◌, ◌^◌, ◌%◌, ◌<◌}
use native.Mathlib.Omega.{arith}
use native.Mathlib.Nat.{one-mul, lt_of_lt_of_le}
use borrow.Author.Tests.{le-leb, lt-ltb}
use lib.Dec.{lit<}
use lib.Pow.{shl_exact, pow_pos, pow_mono}
use Rattle.blocks.proofs.BlocksLaws.{le_pred}
use Rattle.blocks.proofs.highest.Goals as goal

shifted : (s : ℕ) → s < 8 → 1 * 2 ^ s % 2 ^ 8 ≡ 2 ^ s
shifted s h = shl_exact 1 s 8 (lit< tt) (omega arith) ∙ one-mul (2 ^ s)

pub overflow_sub-result : goal.overflow_sub-result
overflow_sub-result c = let s = c.args.s in omega (arith, shifted s (omega arith), pow_pos s)

pub returns-then-s-lt8 : goal.returns-then-s-lt8
returns-then-s-lt8 c = let s = c.args.s in λ x h. rw (shifted s (omega arith)) (le_pred x (2 ^ s) (pow_pos s))

pub returns-else-s-lt8 : goal.returns-else-s-lt8
returns-else-s-lt8 c = λ x h. le-leb x 255 (omega arith) ∙ sym (lt-ltb x _ (lt_of_lt_of_le h (pow_mono {i = 8} {j = c.args.s} (omega arith))))
