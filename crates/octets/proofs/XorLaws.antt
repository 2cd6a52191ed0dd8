-- Laws of `bit_xor` that lib.Bits lacks: its low digit, and that it is associative.
use Prim.Native.Nat.{ℕ, zero, suc, ◌+◌, ◌*◌, ◌/◌, ◌%◌, ◌<◌}
use mathlib.Core.Path.{◌≡◌, refl, sym, ap, ap₂, ◌∙◌}
use native.Mathlib.Nat.{add_comm}
use native.Mathlib.Omega.{arith}
use lib.Arith.{bin_ind}
use lib.Bits.{bit_xor, differ, xor_step, xor_comm}

-- the low digit is the parity of the sum, and the rest is the xor of the halves
differ_parity : (x y : ℕ) → x < 2 → y < 2 → differ x y ≡ (x + y) % 2
differ_parity zero y hx hy = omega arith
differ_parity (suc x) zero hx hy = omega arith
differ_parity (suc x) (suc y) hx hy = omega (arith, differ_parity x y (omega arith) (omega arith))

pub xor_digits : (a b : ℕ) → bit_xor a b ≡ bit_xor (a / 2) (b / 2) * 2 + (a + b) % 2
xor_digits a b = xor_step a b ∙ ap (λ (x : ℕ). bit_xor (a / 2) (b / 2) * 2 + x) (differ_parity (a % 2) (b % 2) (omega arith) (omega arith) ∙ omega arith)

pub xor_half : (a b : ℕ) → bit_xor a b / 2 ≡ bit_xor (a / 2) (b / 2)
xor_half a b = omega (arith, xor_digits a b)

pub xor_odd : (a b : ℕ) → bit_xor a b % 2 ≡ (a + b) % 2
xor_odd a b = omega (arith, xor_digits a b)

odd_sum : (x s c : ℕ) → x % 2 ≡ s % 2 → (x + c) % 2 ≡ (s + c) % 2
odd_sum x s c h = omega arith

pub xor_assoc : (a b c : ℕ) → bit_xor (bit_xor a b) c ≡ bit_xor a (bit_xor b c)
xor_assoc =
    bin_ind (λ (a : ℕ). (b c : ℕ) → bit_xor (bit_xor a b) c ≡ bit_xor a (bit_xor b c)) (λ b c. refl)
    (λ a ih b c. xor_digits (bit_xor a b) c
    ∙ ap₂ (λ (x y : ℕ). x * 2 + y)
    (ap (λ (x : ℕ). bit_xor x (c / 2)) (xor_half a b) ∙ ih (b / 2) (c / 2) ∙ ap (bit_xor (a / 2)) (sym (xor_half b c)))
    (odd_sum (bit_xor a b) (a + b) c (xor_odd a b) ∙ ap (λ (x : ℕ). x % 2) (omega arith) ∙ sym (odd_sum (bit_xor b c) (b + c) a (xor_odd b c)) ∙ ap (λ (x : ℕ). x % 2) (add_comm (bit_xor b c) a))
    ∙ sym (xor_digits a (bit_xor b c)))

pub xor_swap : (a b c : ℕ) → bit_xor (bit_xor a b) c ≡ bit_xor (bit_xor a c) b
xor_swap a b c = xor_assoc a b c ∙ ap (bit_xor a) (xor_comm b c) ∙ sym (xor_assoc a c b)
