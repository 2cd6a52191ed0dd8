-- Two outcomes that a promise of this crate allows are the same.
use Prim.Native.Nat.{ℕ}
use mathlib.Core.Path.{◌≡◌, refl, ap, sym, ◌∙◌}
use mathlib.Core.Bool.{true, false}
use native.Mathlib.Omega.{arith}
use lib.Dec.{eqb, ltb}
use lib.Ieee.{Float, eq, round}
use borrow.Author.Tests.{ltb-false}
use Rattle.octets.specs.Octets.{tab}
use Rattle.octets.proofs.TabLaws.{agree}
use Rattle.octets.proofs.BoolLaws.{one_outcome, or_false}
use Rattle.refusals.proofs.RefusalLaws.{refuse_zero}
use Rattle.coding.specs.Coding.{sample_bits, droppable_bits, reset_bit, reserved, frame_length, refusal6}
use Rattle.coding.specs.Noise.{noise_of, paper, tenths, tenth}
use Rattle.coding.specs.declared.Noise.{Noise}
use Rattle.coding.specs.declared.Noise.TheVariants.{Idle, Level, Refused}

abbrev One : {A : Type 0} → A → Type 0
One {A} right = (a b : A) → a ≡ right → b ≡ right → a ≡ b

one : {A : Type 0} (right : A) → One right
one right a b = one_outcome

-- the functions of a coding type
pub coding : (t dropped : ℕ) → One (sample_bits t) × One (droppable_bits t) × One (reset_bit t) × One (reserved t) × One (frame_length t dropped) × One (refusal6 t)
coding t dropped = (one (sample_bits t), one (droppable_bits t), one (reset_bit t), one (reserved t), one (frame_length t dropped), one (refusal6 t))

-- of codes 0 to 15, the level 0 is only that of 0
no_level : tab (λ k. eq (tenth (tenths k)) (tenth 0)) 16 ≡ tab (λ k. eqb k 0) 16
unfolding tab eq round
no_level = refl

zero_alone : (k : ℕ) → ltb 15 k ≡ false → tenth (tenths k) ≡ tenth 0 → eqb k 0 ≡ true
unfolding eq round
zero_alone k h e = sym (agree _ _ 16 no_level k (omega (arith, ltb-false 15 k h))) ∙ ap (λ x. eq x (tenth 0)) e

-- a level of 0 and a refusal with the number 0 read alike, and no code is answered so
level_refused : (x : Float) (n code : ℕ) → paper (Level x) ≡ noise_of code → paper (Refused n) ≡ noise_of code → Level x ≡ Refused n
unfolding paper noise_of
level_refused x n code p q =
    let small = (or_false (ltb 15 code) false (refuse_zero _ 11 (sym (ap (λ r. r.number) p)))).0 in
    let z = zero_alone code small (sym (ap (λ r. r.level) q)) in
    let f : false ≡ true = ap (λ r. r.idle) p ∙ z in
    cc

same : (a b : Noise) (code : ℕ) → paper a ≡ noise_of code → paper b ≡ noise_of code → paper a ≡ paper b → a ≡ b
unfolding paper
same Idle Idle code p q e = refl
same Idle (Level y) code p q e = cc (ap (λ r. r.idle) e)
same Idle (Refused n) code p q e = cc (ap (λ r. r.idle) e)
same (Level x) Idle code p q e = cc (ap (λ r. r.idle) e)
same (Level x) (Level y) code p q e = ap Level (ap (λ r. r.level) e)
same (Level x) (Refused n) code p q e = level_refused x n code p q
same (Refused m) Idle code p q e = cc (ap (λ r. r.idle) e)
same (Refused m) (Level y) code p q e = sym (level_refused y m code q p)
same (Refused m) (Refused n) code p q e = ap Refused (ap (λ r. r.number) e)

pub noise_level : (a b : Noise) (code : ℕ) → paper a ≡ noise_of code → paper b ≡ noise_of code → a ≡ b
noise_level a b code p q = same a b code p q (one_outcome p q)
