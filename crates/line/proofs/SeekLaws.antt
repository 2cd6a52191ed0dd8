-- Where what is sought first stands, looked for in many bits at once.
use Prim.Native.Nat.{ℕ, ◌+◌, ◌-◌, ◌*◌, ◌≤◌, ◌<◌, min}
use mathlib.Core.Path.{◌≡◌, sym, ap, ◌∙◌}
use mathlib.Core.Bool.{Bool, cond}
use mathlib.Core.List.{List}
use native.Mathlib.Nat.{add_assoc, min_comm}
use native.Mathlib.Omega.{arith}
use lib.Dec.{ltb}
use borrow.Author.Tests.{lt-ltb, le-ltb}
use lib.Count.{count_trailing_zeros}
use lib.ListN.{length, take, drop, length-take}
use lib.Seq.{drop-drop}
use Rattle.bits.specs.Bits.{bits, lowest, value}
use Rattle.bits.specs.Marks.{marks}
use Rattle.bits.specs.Places.{until}
use Rattle.bits.proofs.BitLaws.{drop_take}
use Rattle.bits.proofs.MarkLaws.{ones}
use Rattle.bits.proofs.WindowLaws.{rest, length_rest, seen}
use Rattle.bits.proofs.UntilLaws.{until_le, until_window, begins_take}
use Rattle.line.specs.Line.{flag, flag_here}
use Rattle.line.specs.Parts.{sought}
use Rattle.line.specs.declared.Sought.{Sought}
use Rattle.line.specs.declared.Sought.TheVariants.{Opening, End}

-- ---- what is sought shows in sixteen bits

flag_take : (d k : ℕ) (l : List Bool) → d + 8 ≤ k → flag_here (drop d (take k l)) ≡ flag_here (drop d l)
flag_take d k l h = rw (drop_take d k l) (begins_take flag (k - d) (drop d l) (omega arith))

sees : (o : Sought) (k : ℕ) (l : List Bool) → 16 ≤ k → sought o (take k l) ≡ sought o l
sees Opening k l h = rw (flag_take 0 k l (omega arith), flag_take 7 k l (omega arith), flag_take 8 k l (omega arith))
sees End k l h = rw (flag_take 0 k l (omega arith), begins_take (ones 7) k l (omega arith))

-- ---- one turn of the loop

module _ (s : List ℕ) (count : ℕ) (within : count ≤ 8 * length s) (i n w : ℕ) (en : n ≡ min (count - i) 56) (ew : w ≡ value (take n (drop i (bits s))))
    (o : Sought) (m : ℕ) (em : m ≡ value (marks (sought o) (lowest n w))) where
  told : until (sought o) (rest s count i)
      ≡ cond (ltb (count_trailing_zeros 64 m) 40) (count_trailing_zeros 64 m)
      (length (take 40 (rest s count i)) + until (sought o) (drop (length (take 40 (rest s count i))) (rest s count i)))
  told = rw (em, seen s count 56 i n w (en ∙ min_comm (count - i) 56) ew within) (until_window (sought o) 16 (sees o) 40 56 64 (rest s count i) (omega arith) (omega arith))

  pub found : i ≤ count → count_trailing_zeros 64 m < 40 → (until (sought o) (rest s count i) ≡ count_trailing_zeros 64 m) × (i + count_trailing_zeros 64 m ≤ count)
  found h below =
      let e : until (sought o) (rest s count i) ≡ count_trailing_zeros 64 m = rw (lt-ltb (count_trailing_zeros 64 m) 40 below) at told in
      (e, omega (arith, until_le (sought o) (rest s count i), length_rest s count within i))

  pub passed : (r : ℕ) → r ≡ min n 40 → 40 ≤ count_trailing_zeros 64 m → i + until (sought o) (rest s count i) ≡ i + r + until (sought o) (rest s count (i + r))
  passed r er h =
      let e : length (take 40 (rest s count i)) ≡ r = length-take 40 (rest s count i) ∙ omega (arith, length_rest s count within i) in
      ap (◌+◌ i) (rw (le-ltb (count_trailing_zeros 64 m) 40 h, e, drop-drop r i (take count (bits s))) at told) ∙ sym (add_assoc i r (until (sought o) (rest s count (i + r))))
