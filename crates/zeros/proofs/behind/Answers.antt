-- `zeros::behind` meets its contract.
use mathlib.Core.Path.{ap}
use Prim.Native.Nat.{ℕ, ◌+◌}
use Rattle.zeros.proofs.WordLaws.{behind_is, behind_fits}
use Rattle.zeros.proofs.behind.Goals as goal

pub overflow_add-result : goal.overflow_add-result
overflow_add-result c =
    let a = c.args in
    rw (behind_is a.made a.n a.w a.k c.requires.0 c.requires.1) (record { fits = behind_fits a.made a.n a.w a.k c.requires.0 c.requires.1 })

pub returns : goal.returns
returns c = let a = c.args in ap (λ (x : ℕ). a.made + x) (behind_is a.made a.n a.w a.k c.requires.0 c.requires.1)
