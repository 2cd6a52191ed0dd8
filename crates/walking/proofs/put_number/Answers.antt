use native.Mathlib.Omega.{arith}
use mathlib.Core.List.{[], ◌∷◌}
use Rattle.walking.specs.Text.{number}
use Rattle.walking.proofs.TextLaws.{put_text, put_append}
use borrow.Author.Rules.{rules}
use Rattle.walking.proofs.put_number.Goals as goal

pub shape_of-out : goal.shape_of-out
shape_of-out c = search rules

pub returns : goal.returns
unfolding number
returns c =
    let a = c.args in
    put_append c.put_digits-end.ensures (put_text (a.after ∷ []) _ _) (omega arith)
