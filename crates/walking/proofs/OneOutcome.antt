-- One input prints one output.
use Prim.Native.Nat.{ℕ}
use mathlib.Core.Path.{◌≡◌, refl, sym, ap, ◌∙◌}
use mathlib.Core.Bool.{true, false}
use mathlib.Core.List.{List, [], ◌++◌}
use native.Mathlib.Omega.{arith}
use Rattle.walking.specs.Walk.{Carried, step, allowed, legal, Prints, ended, stopped, gone_on}

apart : {A : Type 0} → false ≡ true → A
apart e = absurd (let z : ◌≡◌ {A = ℕ} 0 1 = cc in omega arith)

none_stops : (s : Carried) → (step s []).going ≡ false
unfolding step legal allowed
none_stops s = refl

pub prints_one : {s : Carried} {r x y : List ℕ} → Prints s r x → Prints s r y → x ≡ y
prints_one ended ended = refl
prints_one ended (stopped l g) = absurd (omega arith)
prints_one ended (gone_on {s} g p) = apart (sym (none_stops s) ∙ g)
prints_one (stopped l g) ended = absurd (omega arith)
prints_one (stopped l g) (stopped m h) = refl
prints_one (stopped l g) (gone_on h p) = apart (sym g ∙ h)
prints_one (gone_on {s} g p) ended = apart (sym (none_stops s) ∙ g)
prints_one (gone_on g p) (stopped m h) = apart (sym h ∙ g)
prints_one (gone_on {s} {r} g p) (gone_on h q) = ap (λ (l : List ℕ). (step s r).line ++ l) (prints_one p q)
