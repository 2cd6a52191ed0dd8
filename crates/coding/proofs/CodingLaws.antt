-- What holds of every coding type: of the 32 rows by a list that antt computes, and above them since no type there has a row.
use Prim.Native.Nat.{ℕ, ◌≤◌, ◌<◌}
use mathlib.Core.Path.{◌≡◌, refl, ap, sym, ◌∙◌}
use mathlib.Core.Bool.{Bool, true, false, ◌&&◌, ◌||◌}
use mathlib.Core.List.{List}
use native.Mathlib.Omega.{arith}
use lib.Dec.{leb, ltb, eqb}
use lib.ListN.{length, get_or, get_or-eq_default}
use borrow.Author.Tests.{lt-leb, ne_eqb, leb-true, ltb-true, ltb-false}
use Rattle.octets.specs.Octets.{tab}
use Rattle.octets.proofs.TabLaws.{agree}
use Rattle.octets.proofs.BoolLaws.{and_true}
use Rattle.coding.specs.Coding.{row, sample_bits, droppable_bits, reserved}
use Rattle.coding.specs.Tables.{entry}

pub above_31 : (t : ℕ) → 32 ≤ t → row t ≡ (0, 0, 0)
unfolding row
above_31 t h =
    simp (
      ne_eqb t 0 (λ e. omega arith),
      lt-leb t 7 (omega arith),
      lt-leb t 9 (omega arith),
      lt-leb t 13 (omega arith),
      ne_eqb t 20 (λ e. omega arith),
      ne_eqb t 21 (λ e. omega arith),
      ne_eqb t 24 (λ e. omega arith),
    )

-- two functions of a type that give one list of 32, and the same above 31, are the same
pub every_type : {A : Type 0} (f g : ℕ → A) → tab f 32 ≡ tab g 32 → ((t : ℕ) → 32 ≤ t → f t ≡ g t) → (t : ℕ) → f t ≡ g t
every_type f g below above t = go (ltb t 32) refl
  where
    go : (b : Bool) → ltb t 32 ≡ b → f t ≡ g t
    go true e = agree f g 32 below t (ltb-true t 32 e)
    go false e = above t (ltb-false t 32 e)

-- a table of 32 that is a column of the rows gives that fact of every type
pub column : (fact : ℕ × ℕ × ℕ → ℕ) (table : List ℕ) (t r : ℕ) → r ≡ entry table t → length table ≡ 32 → fact (0, 0, 0) ≡ 0
    → tab (λ k. get_or table k 0) 32 ≡ tab (λ k. fact (row k)) 32 → r ≡ fact (row t)
unfolding entry
column fact table t r is size none below =
    is ∙ every_type (entry table) (λ k. fact (row k)) below
    (λ k h. get_or-eq_default table 0 (omega arith) ∙ sym (ap fact (above_31 k h) ∙ none)) t

-- S is at most 8 and D at most 3 and S; and a type that is not reserved is below 32 and keeps a block
abbrev sound : ℕ → ℕ × ℕ × ℕ → Bool
sound t r = leb r.0 8 && (leb r.1 3 && (leb r.1 r.0 && (eqb r.0 0 || (ltb r.1 r.0 && ltb t 32))))

sound_row : (t : ℕ) → sound t (row t) ≡ true
unfolding tab row
sound_row = every_type (λ t. sound t (row t)) (λ t. true) refl (λ t h. ap (sound t) (above_31 t h))

module _ (t : ℕ) where
  facts : (leb (sample_bits t) 8 ≡ true) × (leb (droppable_bits t) 3 ≡ true) × (leb (droppable_bits t) (sample_bits t) ≡ true)
      × ((reserved t || (ltb (droppable_bits t) (sample_bits t) && ltb t 32)) ≡ true)
  facts =
      let p = and_true _ _ (sound_row t) in
      let q = and_true _ _ p.1 in
      let r = and_true _ _ q.1 in
      (p.0, q.0, r.0, r.1)

  pub s_le_8 : sample_bits t ≤ 8
  s_le_8 = leb-true (sample_bits t) 8 facts.0

  pub d_le_3 : droppable_bits t ≤ 3
  d_le_3 = leb-true (droppable_bits t) 3 facts.1

  pub d_le_s : droppable_bits t ≤ sample_bits t
  d_le_s = leb-true (droppable_bits t) (sample_bits t) facts.2

  module _ (h : reserved t ≡ false) where
    legal : (ltb (droppable_bits t) (sample_bits t) ≡ true) × (ltb t 32 ≡ true)
    legal = and_true _ _ (rw h at facts.3)

    pub d_lt_s : droppable_bits t < sample_bits t
    d_lt_s = ltb-true (droppable_bits t) (sample_bits t) legal.0

    pub not_reserved : (1 ≤ sample_bits t) × (t < 32)
    not_reserved = (omega (arith, d_lt_s), ltb-true t 32 legal.1)
