-- Octets cut into frames: what lies past the last of them is of no account, one more at the end, how many they are and how many octets.
use Prim.Native.Nat.{ℕ, suc, ◌+◌, ◌≤◌}
use mathlib.Core.Path.{◌≡◌, refl, ap, ap₂, ◌∙◌}
use mathlib.Core.List.{List, [], ◌∷◌, ◌++◌}
use native.Mathlib.Omega.{arith}
use lib.ListN.{length, take, drop, length-drop}
use lib.Seq.{take-append-le, drop-append-le, drop-drop, length-take-le}
use Rattle.ring.specs.Ring.{sum}
use Rattle.room.specs.Plain.{Kept, kept, together}
use Rattle.room.specs.Waiting.{cut}

pub cut_more : (a b ls cs : List ℕ) → sum ls ≤ length a → cut (a ++ b) ls cs ≡ cut a ls cs
unfolding cut sum
cut_more a b [] cs h = refl
cut_more a b (l ∷ ls) [] h = refl
cut_more a b (l ∷ ls) (c ∷ cs) h =
    let n : l ≤ length a = omega arith in
    ap₂ (λ (x : List ℕ) (y : List Kept). kept x c ∷ y) (take-append-le l a b n)
    (ap (λ (x : List ℕ). cut x ls cs) (drop-append-le l a b n) ∙ cut_more (drop l a) b ls cs (omega (arith, length-drop l a)))

pub cut_snoc : (r ls cs : List ℕ) (l c : ℕ) → length ls ≡ length cs
    → cut r (ls ++ l ∷ []) (cs ++ c ∷ []) ≡ cut r ls cs ++ kept (take l (drop (sum ls) r)) c ∷ []
unfolding cut sum
cut_snoc r [] [] l c e = refl
cut_snoc r [] (d ∷ cs) l c e = absurd (omega arith)
cut_snoc r (k ∷ ls) [] l c e = absurd (omega arith)
cut_snoc r (k ∷ ls) (d ∷ cs) l c e =
    ap (λ (y : List Kept). kept (take k r) d ∷ y)
    (cut_snoc (drop k r) ls cs l c (omega arith) ∙ ap (λ (x : List ℕ). cut (drop k r) ls cs ++ kept (take l x) c ∷ []) (drop-drop (sum ls) k r))

pub cut_together : (r ls cs : List ℕ) → length ls ≡ length cs → sum ls ≤ length r → together (cut r ls cs) ≡ sum ls
unfolding cut sum together
cut_together r [] cs e h = refl
cut_together r (l ∷ ls) [] e h = absurd (omega arith)
cut_together r (l ∷ ls) (c ∷ cs) e h =
    ap₂ ◌+◌ (length-take-le l r (omega arith)) (cut_together (drop l r) ls cs (omega arith) (omega (arith, length-drop l r)))

pub cut_count : (r ls cs : List ℕ) → length ls ≡ length cs → length (cut r ls cs) ≡ length ls
unfolding cut
cut_count r [] cs e = refl
cut_count r (l ∷ ls) [] e = absurd (omega arith)
cut_count r (l ∷ ls) (c ∷ cs) e = ap suc (cut_count (drop l r) ls cs (omega arith))
