-- What the register holds, read as a number and as two octets: the plain check is the quick one.
use Prim.Native.Nat.{ℕ, zero, suc, ◌-◌, ◌/◌, ◌%◌, ◌^◌, ◌<◌}
use mathlib.Core.Path.{◌≡◌, refl, sym, ap, ap₂, ◌∙◌}
use mathlib.Core.List.{List, [], ◌∷◌}
use native.Mathlib.Nat.{pow-suc}
use native.Mathlib.Omega.{arith}
use lib.Arith.{lt-one}
use lib.ListN.{take, drop, replicate}
use Rattle.fcs.specs.Fcs.{fcs_run, fcs_of, fcs_octets}
use Rattle.fcs.proofs.RunLaws.{run_below}
use Rattle.plain_check.specs.Bits.{number}
use Rattle.plain_check.specs.Check.{added, complemented, dividend, remainder, check_sequence, check_octets}
use Rattle.plain_same.proofs.DivisionLaws.{low_bits, remainder_is}

number_low : (n x : ℕ) → x < 2 ^ n → number (low_bits n x) ≡ x
unfolding number low_bits
number_low zero x h = sym (lt-one h)
number_low (suc n) x h = omega (arith, number_low n (x / 2) (omega (arith, pow-suc 2 n)))

-- and read as a number
pub register_is : (message : List ℕ) → number (remainder (dividend message)) ≡ fcs_run 65535 message
register_is message = ap number (remainder_is message) ∙ number_low 16 (fcs_run 65535 message) (run_below 65535 message (omega arith))

complement_low : (n x : ℕ) → x < 2 ^ n → added (replicate n 1) (low_bits n x) ≡ low_bits n (2 ^ n - 1 - x)
unfolding added low_bits
complement_low zero x h = refl
complement_low (suc n) x h =
    ap₂ (λ (b : ℕ) (t : List ℕ). b ∷ t)
    (omega (arith, pow-suc 2 n))
    (complement_low n (x / 2) (omega (arith, pow-suc 2 n)) ∙ ap (low_bits n) (omega (arith, pow-suc 2 n)))

sequence_is : (message : List ℕ) → check_sequence message ≡ low_bits 16 (fcs_of message)
unfolding check_sequence complemented fcs_of
sequence_is message =
    ap (added (replicate 16 1)) (remainder_is message)
    ∙ complement_low 16 (fcs_run 65535 message) (run_below 65535 message (omega arith))

-- sixteen bits as two octets
first_octet : (y : ℕ) → number (take 8 (low_bits 16 y)) ≡ y % 256
unfolding low_bits number
first_octet y = omega arith

second_octet : (y : ℕ) → y < 65536 → number (drop 8 (low_bits 16 y)) ≡ y / 256
unfolding low_bits number
second_octet y h = omega arith

-- on every list the plain check is the quick one
pub check_is : (message : List ℕ) → check_octets message ≡ fcs_octets message
unfolding check_octets fcs_octets fcs_of
check_is message =
    ap (λ (s : List ℕ). number (take 8 s) ∷ number (drop 8 s) ∷ []) (sequence_is message)
    ∙ ap₂ (λ (x y : ℕ). x ∷ y ∷ []) (first_octet (fcs_of message)) (second_octet (fcs_of message) (omega arith))
