use Prim.Native.Nat.{◌+◌, ◌%◌}
use mathlib.Core.List.{[], ◌∷◌}
use native.Mathlib.Omega.{arith}
use Rattle.walking.specs.Text.{digits}
use Rattle.walking.proofs.TextLaws.{put_none, put_text, put_append, digits_few, digits_more}
use Rattle.walking.proofs.+put_digits.Goals as goal

pub returns-then-places-eq0 : goal.returns-then-places-eq0
unfolding digits
returns-then-places-eq0 t c = rw c.if-places-eq0.true (put_none _ _ _)

pub returns-then-n-lt10 : goal.returns-then-n-lt10
returns-then-n-lt10 t c =
    let a = c.args in
    rw (digits_few a.places a.n (omega arith) (omega arith)) (put_append (put_none 0 _ _) (put_text ((48 + a.n) ∷ []) _ _) (omega arith))

pub returns : goal.returns
returns t c =
    let a = c.args in
    rw (digits_more a.places a.n (omega arith) (omega arith)) (put_append c.put_digits-end.ensures (put_text ((48 + a.n % 10) ∷ []) _ _) (omega arith))
