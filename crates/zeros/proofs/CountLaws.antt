-- How many places there are where bits begin with some others, counted in many bits at once.
use Prim.Native.Nat.{ℕ, zero, suc, ◌+◌, ◌-◌, ◌*◌, ◌≤◌, ◌<◌, min}
use mathlib.Core.Path.{◌≡◌, refl, sym, ap, ap₂, ◌∙◌}
use mathlib.Core.Bool.{Bool, true, false, cond, beq, and-false}
use mathlib.Core.List.{List, [], ◌∷◌}
use native.Mathlib.Nat.{zero-add, suc-add, not-suc-le-zero, le_of_suc-le-suc}
use native.Mathlib.Omega.{arith}
use lib.Count.{ones, ones_step}
use lib.ListN.{length, take, drop, length-take}
use lib.Seq.{take-nil, take_all, drop-drop}
use Rattle.bits.specs.Bits.{bits, lowest, value}
use Rattle.bits.specs.Marks.{marks}
use Rattle.bits.specs.Places.{begins}
use Rattle.bits.proofs.BitLaws.{half, odd}
use Rattle.bits.proofs.MarkLaws.{Marked}
use Rattle.bits.proofs.UntilLaws.{begins_take}
use Rattle.bits.proofs.WindowLaws.{rest, length_rest, seen}
use Rattle.zeros.specs.Parts.{places, zero_behind}

-- ---- the ones of a mask are as many as the places

ones_places : (test : List Bool → Bool) (bs : List Bool) → ones (value (marks test bs)) ≡ places test bs
unfolding marks value places ones
ones_places test [] = refl
ones_places test (b ∷ bs) =
    let t : Bool = test (b ∷ bs) in
    let v : ℕ = value (marks test bs) in
    ones_step (cond t 1 0 + 2 * v) ∙ rw (odd t v, half t v, ones_places test bs)

pub marked_places : {bs : List Bool} {test : List Bool → Bool} {m : ℕ} → Marked bs test m → ones m ≡ places test bs
marked_places {bs} {test} m = ap ones m.is ∙ ones_places test bs

pub places_le : (test : List Bool → Bool) (bs : List Bool) → places test bs ≤ length bs
unfolding places
places_le test [] = omega arith
places_le test (b ∷ bs) = go (test (b ∷ bs)) (places_le test bs)
  where
    go : (t : Bool) → places test bs ≤ length bs → cond t 1 0 + places test bs ≤ suc (length bs)
    go true h = omega arith
    go false h = omega arith

-- ---- a window of a + k bits shows what begins at its first a places, and nothing that begins later

begins_short : (p l : List Bool) → length l < length p → begins p l ≡ false
unfolding begins
begins_short [] l h = absurd (not-suc-le-zero h)
begins_short (a ∷ p) [] h = refl
begins_short (a ∷ p) (b ∷ l) h = rw (begins_short p l (le_of_suc-le-suc h)) (and-false (beq a b))

module _ (p : List Bool) (k : ℕ) (e : length p ≡ suc k) where
  pub places_short : (l : List Bool) → length l ≤ k → places (begins p) l ≡ 0
  unfolding places
  places_short [] h = refl
  places_short (b ∷ l) h = rw (begins_short p (b ∷ l) (omega arith), places_short l (omega arith))

  pub places_window : (a : ℕ) (l : List Bool) → places (begins p) l ≡ places (begins p) (take (a + k) l) + places (begins p) (drop a l)
  unfolding places
  places_window zero l = rw (zero-add k, places_short (take k l) (omega (arith, length-take k l))) (sym (zero-add (places (begins p) l)))
  places_window (suc a) [] = rw (take-nil {A = Bool} (suc a + k))
  places_window (suc a) (b ∷ l) =
      let s : begins p (b ∷ take (a + k) l) ≡ begins p (b ∷ l) = begins_take p (suc (a + k)) (b ∷ l) (omega arith) in
      rw (suc-add a k, s) (omega (arith, places_window a l))

-- ---- the zeros behind five ones, window by window

module _ (s : List ℕ) (end : ℕ) (within : end ≤ 8 * length s) (i n w r : ℕ) (en : n ≡ min 56 (end - i)) (ew : w ≡ value (take n (drop i (bits s)))) (er : r ≡ places zero_behind (lowest n w)) where
  counted : r ≡ places zero_behind (take 56 (rest s end i))
  counted = er ∙ ap (places zero_behind) (seen s end 56 i n w en ew within)

  pub count_more : places zero_behind (rest s end i) ≡ r + places zero_behind (rest s end (i + 51))
  count_more =
      places_window (true ∷ true ∷ true ∷ true ∷ true ∷ false ∷ []) 5 refl 51 (rest s end i)
      ∙ ap₂ ◌+◌ (sym counted) (ap (places zero_behind) (drop-drop 51 i (take end (bits s))))

  pub count_last : end - i ≤ 56 → places zero_behind (rest s end i) ≡ r
  count_last h = sym (counted ∙ ap (places zero_behind) (take_all 56 (rest s end i) (rw (length_rest s end within i) h)))
