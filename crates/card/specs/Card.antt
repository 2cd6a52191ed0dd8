-- What the exported forms share: the slices that a host lends, and what is written to them. What only this form can get wrong is judged before all else.
use Rattle.std.specs.Prelude.{ℕ, Bool, cond, List, ◌++◌, length, drop}
use Rattle.refusals.specs.Refusals.{◌or_else◌, if_taken, refusal16}

-- an answer slice too short for n
abbrev pub short : {A : Type 0} → ℕ → List A → ℕ
short n slot = refusal16 (length slot) n

-- one of two too short, for n and for m
abbrev pub short_two : {A B : Type 0} → ℕ → List A → ℕ → List B → ℕ
short_two n first m second = short n first or_else short m second

-- the values at the front of a slice, and its rest as it came
unfoldable pub put : {A : Type 0} → List A → List A → List A
put values slot = values ++ drop (length values) slot

-- a slice that is written unless a number of this form applies
unfoldable pub written : {A : Type 0} → ℕ → List A → List A → List A
written flat values slot = if_taken flat (put values slot) slot

-- 1 for what holds, 0 for what does not
abbrev pub flag : Bool → ℕ
flag b = cond b 1 0
