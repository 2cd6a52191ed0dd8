-- `onward::head` meets its contract.
use Rattle.std.proofs.Common.{◌≡◌, ℕ, ◌+◌, ◌-◌, ◌*◌, ◌/◌, ◌%◌, List, [], ◌∷◌, ◌∙◌, ap₂}
use Rattle.octets.specs.Octets.{octet}
use Rattle.frame.specs.Fields.{stamp}
use Rattle.onward.specs.Onward.{dropped, stamp_after, onward_head}
use Rattle.onward.proofs.head.Goals as goal

-- the head, of the four octets that are new
head_is : (level wait addr : ℕ) (f : List ℕ) (a b e s : ℕ) → a ≡ addr / 128 * 4 + octet 1 f % 4 → b ≡ addr % 128 * 2 + octet 2 f % 2
    → e ≡ octet 5 f - dropped level f → s ≡ stamp_after (stamp f) wait
    → a ∷ b ∷ octet 3 f ∷ octet 4 f ∷ e ∷ s ∷ octet 7 f ∷ octet 8 f ∷ [] ≡ onward_head level wait addr f
unfolding onward_head
head_is level wait addr f a b e s p q r t =
    ap₂ (λ (x y : ℕ). x ∷ y ∷ octet 3 f ∷ octet 4 f ∷ e ∷ s ∷ octet 7 f ∷ octet 8 f ∷ []) p q
    ∙ ap₂ (λ (x y : ℕ). (addr / 128 * 4 + octet 1 f % 4) ∷ (addr % 128 * 2 + octet 2 f % 2) ∷ octet 3 f ∷ octet 4 f ∷ x ∷ y ∷ octet 7 f ∷ octet 8 f ∷ []) r t

pub returns : goal.returns
returns c =
    let k6 = c.stamp_after in
    let k5 = c.octet_5 in
    let k2 = c.octet_2 in
    let k1 = c.octet_1 in
    let a = c.args in
    head_is a.level a.wait a.address a.frame.now k1.result k2.result k5.result k6.result k1.ensures k2.ensures k5.ensures k6.ensures
