-- What a level gives back of all that wait: with a frame more, without the first, and at most.
use Prim.Native.Nat.{ℕ, ◌+◌, ◌-◌, ◌*◌, ◌≤◌}
use mathlib.Core.Path.{◌≡◌, refl, sym}
use mathlib.Core.List.{List, [], ◌∷◌, ◌++◌}
use native.Mathlib.Omega.{arith}
use lib.ListN.{length, drop}
use Rattle.totals.specs.Totals.{gives, levels, total, raised, lowered}
use Rattle.totals.proofs.TotalsLaws.{gives_most, gives_none, each_level, totals_at_most}
use Rattle.room.specs.Plain.{Kept, kept, first_of, gives_all}

pub gives_behind : (level : ℕ) (w : List Kept) (f : List ℕ) (clock : ℕ) → gives_all level (w ++ kept f clock ∷ []) ≡ gives_all level w + gives level f
unfolding gives_all
gives_behind level [] f clock = omega arith
gives_behind level (k ∷ w) f clock = omega (arith, gives_behind level w f clock)

pub gives_left : (level : ℕ) (w : List Kept) → gives_all level (drop 1 w) ≡ gives_all level w - gives level (first_of w).octets
unfolding gives_all
gives_left level [] = omega arith
gives_left level (k ∷ w) = omega arith

-- three blocks a frame
pub gives_all_most : (level : ℕ) (w : List Kept) → gives_all level w ≤ 48 * length w
unfolding gives_all
gives_all_most level [] = omega arith
gives_all_most level (k ∷ w) = omega (arith, gives_most level k.octets, gives_all_most level w)

-- level 0 nothing
pub gives_all_none : (w : List Kept) → gives_all 0 w ≡ 0
unfolding gives_all
gives_all_none [] = refl
gives_all_none (k ∷ w) = omega (arith, gives_none k.octets, gives_all_none w)

-- the full sums move as the totals do
pub sums_behind : (w : List Kept) (f : List ℕ) (clock : ℕ)
    → raised f (levels (λ level. gives_all level w)) ≡ levels (λ level. gives_all level (w ++ kept f clock ∷ []))
unfolding raised
sums_behind w f clock =
    each_level (λ level. gives_all level w + gives level f) (λ level. gives_all level (w ++ kept f clock ∷ []))
    (sym (gives_behind 1 w f clock)) (sym (gives_behind 2 w f clock)) (sym (gives_behind 3 w f clock))

pub sums_left : (w : List Kept) → lowered (first_of w).octets (levels (λ level. gives_all level w)) ≡ levels (λ level. gives_all level (drop 1 w))
unfolding lowered
sums_left w =
    each_level (λ level. gives_all level w - gives level (first_of w).octets) (λ level. gives_all level (drop 1 w))
    (sym (gives_left 1 w)) (sym (gives_left 2 w)) (sym (gives_left 3 w))

-- and totals at most the sums stay so
module _ (ts : List ℕ) (w : List Kept) (le : (level : ℕ) → total ts level ≤ gives_all level w) where
  pub covered_behind : (f : List ℕ) (clock level : ℕ) → total (raised f ts) level ≤ gives_all level (w ++ kept f clock ∷ [])
  unfolding raised
  covered_behind f clock =
      totals_at_most (λ level. total ts level + gives level f) (λ level. gives_all level (w ++ kept f clock ∷ []))
      (λ level. omega (arith, le level, gives_behind level w f clock))

  pub covered_left : (level : ℕ) → total (lowered (first_of w).octets ts) level ≤ gives_all level (drop 1 w)
  unfolding lowered
  covered_left =
      totals_at_most (λ level. total ts level - gives level (first_of w).octets) (λ level. gives_all level (drop 1 w))
      (λ level. omega (arith, le level, gives_left level w))
