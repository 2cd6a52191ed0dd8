use Prim.Native.Nat.{ℕ, ◌+◌, ◌*◌, ◌/◌, ◌%◌}
use mathlib.Core.Path.{◌≡◌, ap, ◌∙◌}
use mathlib.Core.List.{List, [], ◌∷◌}
use native.Mathlib.Omega.{arith}
use Rattle.coding.specs.Coding.{droppable_bits}
use Rattle.coding.proofs.CodingLaws.{d_le_3}
use Rattle.origin.specs.Send.{made_head}
use Rattle.origin.proofs.made_head.Goals as goal

-- the head made with D
with_d : (addr coding more sequence noise d : ℕ) (x : List ℕ) → d ≡ droppable_bits coding
    → x ≡ addr / 128 * 4 ∷ (addr % 128 * 2 + 1) ∷ 239 ∷ 68 ∷ (d * 16 + d) ∷ 0 ∷ (more * 128 + coding) ∷ (sequence * 16 + noise) ∷ []
    → x ≡ made_head addr coding more sequence noise
unfolding made_head
with_d addr coding more sequence noise d x p e =
    e ∙ ap (λ (k : ℕ). addr / 128 * 4 ∷ (addr % 128 * 2 + 1) ∷ 239 ∷ 68 ∷ (k * 16 + k) ∷ 0 ∷ (more * 128 + coding) ∷ (sequence * 16 + noise) ∷ []) p

pub overflow_mul-d : goal.overflow_mul-d
overflow_mul-d c = omega (arith, d_le_3 c.args.coding)

pub overflow_add-d : goal.overflow_add-d
overflow_add-d c = omega (arith, d_le_3 c.args.coding)

pub returns : goal.returns
returns c =
    let a = c.args in
    let d = c.droppable_bits-d in
    with_d a.address a.coding a.more a.sequence a.noise d.result c.head.result d.ensures c.head.ensures
