-- `with_ignored` changes all that is ignored, and no less: a frame of octets that has in common with f all that a reader looks at, and whose check is right, is f with bits of that frame.
use Prim.Native.Nat.{ℕ, suc, ◌+◌, ◌-◌, ◌*◌, ◌/◌, ◌%◌, ◌≤◌, ◌<◌}
use mathlib.Core.Path.{◌≡◌, sym, ap, ap₂, ◌∙◌}
use mathlib.Core.Bool.{true, false, cond}
use mathlib.Core.List.{List, ◌∷◌, ◌++◌}
use native.Mathlib.Omega.{arith}
use lib.Dec.{eqb}
use lib.ListN.{length, take, drop, get_or}
use lib.Seq.{take-take, drop-cons}
use Rattle.octets.specs.Octets.{octet}
use Rattle.fcs.specs.Fcs.{fcs_octets, fcs_good}
use Rattle.fcs.proofs.SealLaws.{seal_agrees}
use Rattle.frame.specs.Fields.{is_voice, field_m, field_c, stamp, more_bit, coding, na, signal_bits, covered}
use Rattle.frame.specs.Ignored.{octet5_with, octet7_with, octet8_with, ignored_from, with_ignored}
use Rattle.frame.proofs.FrameLaws.{by_kind}

-- each octet, made again of what is common and what is its own
by_fours : (x a b t top m k c : ℕ) → x ≡ a * 4 + c → a ≡ b * 4 + k → b ≡ t * 4 + m → top ≡ t → top * 64 + m * 16 + k * 4 + c ≡ x
by_fours x a b t top m k c e₁ e₂ e₃ e₄ = omega arith

fifth_of : (x m c : ℕ) → x < 256 → x / 16 % 4 ≡ m → x % 4 ≡ c → x / 64 % 4 * 64 + m * 16 + x / 4 % 4 * 4 + c ≡ x
fifth_of x m c h p q =
    by_fours x (x / 4) (x / 16) (x / 64) (x / 64 % 4) m (x / 4 % 4) c (omega arith) (omega arith) (omega arith) (omega arith)

voice_seventh_of : (x m k : ℕ) → x < 256 → x / 128 % 2 ≡ m → x % 32 ≡ k → m * 128 + x / 32 % 4 * 32 + k ≡ x
voice_seventh_of x m k h p q = omega arith

signal_seventh_of : (x n : ℕ) → x < 256 → x % 2 ≡ n → x / 2 % 128 * 2 + n ≡ x
signal_seventh_of x n h p = omega arith

eighth_of : (x b : ℕ) → x < 256 → x % 16 ≡ b → x / 16 % 16 * 16 + b ≡ x
eighth_of x b h p = omega arith

-- octets 1 to 8 in front of a part
next_octet : (h : List ℕ) (k n m : ℕ) → k < length h → n ≡ suc m → take n (drop k h) ≡ get_or h k 0 ∷ take m (drop (suc k) h)
next_octet h k n m l e = ap₂ take e (drop-cons h k 0 l)

eight_octets : (h : List ℕ) (m : ℕ) → 8 ≤ length h
    → take (8 + m) h ≡ octet 1 h ∷ octet 2 h ∷ octet 3 h ∷ octet 4 h ∷ octet 5 h ∷ octet 6 h ∷ octet 7 h ∷ octet 8 h ∷ take m (drop 8 h)
eight_octets h m l =
    let e1 = next_octet h 0 (8 + m) (7 + m) (omega arith) (omega arith) in
    let e2 = next_octet h 1 (7 + m) (6 + m) (omega arith) (omega arith) in
    let e3 = next_octet h 2 (6 + m) (5 + m) (omega arith) (omega arith) in
    let e4 = next_octet h 3 (5 + m) (4 + m) (omega arith) (omega arith) in
    let e5 = next_octet h 4 (4 + m) (3 + m) (omega arith) (omega arith) in
    let e6 = next_octet h 5 (3 + m) (2 + m) (omega arith) (omega arith) in
    let e7 = next_octet h 6 (2 + m) (1 + m) (omega arith) (omega arith) in
    let e8 = next_octet h 7 (1 + m) m (omega arith) (omega arith) in
    cc

-- what a reader looks at, of h and of f
pub record Common (f h : List ℕ) : Type 0 where
  pub size : length h ≡ length f
  pub first : octet 1 h ≡ octet 1 f
  pub second : octet 2 h ≡ octet 2 f
  pub third : octet 3 h ≡ octet 3 f
  pub fourth : octet 4 h ≡ octet 4 f
  pub m_same : field_m h ≡ field_m f
  pub c_same : field_c h ≡ field_c f
  pub stamped : stamp h ≡ stamp f
  pub voice : is_voice f ≡ true → (more_bit h ≡ more_bit f) × (coding h ≡ coding f) × (octet 8 h ≡ octet 8 f)
  pub signalling : is_voice f ≡ false → (na h ≡ na f) × (signal_bits h ≡ signal_bits f)
  pub field : take (length f - 10) (drop 8 h) ≡ take (length f - 10) (drop 8 f)

module _ (f h : List ℕ) (long : 10 ≤ length f) (octets : (i : ℕ) → get_or h i 0 < 256) (c : Common f h) where
  seventh_is : octet7_with h f ≡ octet 7 h
  seventh_is =
      by_kind f
      (λ v. rw v (voice_seventh_of (octet 7 h) (more_bit f) (coding f) (octets 6) (c.voice v).0 (c.voice v).1))
      (λ v. rw v (signal_seventh_of (octet 7 h) (na f) (octets 6) (c.signalling v).0))

  eighth_is : octet8_with h f ≡ octet 8 h
  eighth_is =
      by_kind f
      (λ v. rw v (sym (c.voice v).2))
      (λ v. rw v (eighth_of (octet 8 h) (signal_bits f) (octets 7) (c.signalling v).1))

  up_to_check_is : ignored_from h f ≡ take (length h - 2) h
  unfolding ignored_from
  up_to_check_is =
      let e1 = c.first in
      let e2 = c.second in
      let e3 = c.third in
      let e4 = c.fourth in
      let e5 : octet5_with h f ≡ octet 5 h = fifth_of (octet 5 h) (field_m f) (field_c f) (octets 4) c.m_same c.c_same in
      let e6 = c.stamped in
      let e7 = seventh_is in
      let e8 = eighth_is in
      let e9 = c.field in
      let n : 8 + (length f - 10) ≡ length h - 2 = omega (arith, c.size) in
      let whole = eight_octets h (length f - 10) (omega (arith, c.size)) in
      let at : take (8 + (length f - 10)) h ≡ take (length h - 2) h = ap (λ (k : ℕ). take k h) n in
      cc

  pub ignored_alone : fcs_good (covered h) h ≡ true → with_ignored h f ≡ h
  unfolding with_ignored
  ignored_alone good =
      let covers : covered f ≡ covered h = ap₂ (λ (x n : ℕ). cond (eqb (x / 32 * 32 + x % 16) 239) 8 (n - 2)) (sym c.third) (sym c.size) in
      let short : take (covered h) (take (length h - 2) h) ≡ take (covered h) h =
      take-take (covered h) (length h - 2) h (by_kind h (λ v. rw v (omega (arith, c.size))) (λ v. rw v (omega arith))) in
      ap₂ (λ (l : List ℕ) (k : ℕ). l ++ fcs_octets (take k l)) up_to_check_is covers
      ∙ ap (λ (l : List ℕ). take (length h - 2) h ++ fcs_octets l) short
      ∙ sym ((seal_agrees (covered h) h (omega (arith, c.size)) octets).0 good)
