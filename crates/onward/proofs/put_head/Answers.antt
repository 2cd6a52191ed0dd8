-- `onward::put_head` meets its contract.
use Rattle.std.proofs.Common.{◌≡◌, ℕ, List, ◌++◌, length, drop, ap, ◌∙◌, arith}
use Rattle.onward.specs.Onward.{onward_head}
use Rattle.onward.proofs.put_head.Goals as goal

-- eight octets, put before what stood behind them
put : (h k out x : List ℕ) → length h ≡ 8 → h ≡ k → x ≡ h ++ drop (length h) out → x ≡ k ++ drop 8 out
put h k out x n e p = p ∙ ap (λ (m : ℕ). h ++ drop m out) n ∙ ap (λ (l : List ℕ). l ++ drop 8 out) e

pub returns : goal.returns
returns c =
    let h = c.before in
    let a = h.args in
    put h.head-made.result (onward_head a.level a.wait a.address a.frame.now) a.out.now _ (omega arith) h.head-made.ensures c.copy.ensures
