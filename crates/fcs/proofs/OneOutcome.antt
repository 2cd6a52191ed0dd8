-- Two outcomes that a promise allows are equal: of the check, of its test, and of the octets that the seal leaves.
use Prim.Native.Nat.{ℕ, ◌+◌}
use mathlib.Core.Path.{◌≡◌}
use mathlib.Core.Bool.{Bool}
use mathlib.Core.List.{List, ◌++◌}
use lib.ListN.{take, drop}
use Rattle.octets.proofs.BoolLaws.{one_outcome}
use Rattle.fcs.specs.Fcs.{fcs_of, fcs_octets, fcs_good}

pub fcs_one : (s : List ℕ) {r r' : ℕ} → r ≡ fcs_of s → r' ≡ fcs_of s → r ≡ r'
fcs_one s p q = one_outcome p q

pub good_one : (n : ℕ) (f : List ℕ) {r r' : Bool} → r ≡ fcs_good n f → r' ≡ fcs_good n f → r ≡ r'
good_one n f p q = one_outcome p q

pub seal_one : (n at : ℕ) (f : List ℕ) {out out' : List ℕ}
    → out ≡ take at f ++ fcs_octets (take n f) ++ drop (at + 2) f → out' ≡ take at f ++ fcs_octets (take n f) ++ drop (at + 2) f → out ≡ out'
seal_one n at f p q = one_outcome p q
