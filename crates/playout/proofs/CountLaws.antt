-- The three cases of `missing_between`.
use Rattle.std.proofs.Common.{◌≡◌, ℕ, ◌+◌, ◌-◌, ◌%◌, min, Bool, cond, refl, ap, ap₂, ne_eqb}
use Rattle.playout.specs.Counts.{missing_between}

pub missing_first : (s : ℕ) → missing_between 0 s ≡ s
unfolding missing_between
missing_first s = refl

pub missing_stop : (r : ℕ) → (r ≡ 0 → ⊥) → missing_between r 0 ≡ 1
unfolding missing_between
missing_stop r h = ap (λ (b : Bool). cond b 0 1) (ne_eqb r 0 h)

pub missing_on : (r s : ℕ) → (r ≡ 0 → ⊥) → (s ≡ 0 → ⊥) → missing_between r s ≡ min ((s + 15 - r) % 15) (s + 1)
unfolding missing_between
missing_on r s h k = ap₂ (λ (a b : Bool). cond a s (cond b 1 (min ((s + 15 - r) % 15) (s + 1)))) (ne_eqb r 0 h) (ne_eqb s 0 k)
