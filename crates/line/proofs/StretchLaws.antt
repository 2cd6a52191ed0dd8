-- Between an opening flag and what ends the stretch there are never six ones in a row.
use Prim.Native.Nat.{ℕ, zero, suc}
use mathlib.Core.Path.{◌≡◌, refl, sym, ap, ◌∙◌}
use mathlib.Core.Logic.{◌⊎◌, inl, inr}
use mathlib.Core.Bool.{Bool, true, false, cond, false≢true}
use mathlib.Core.List.{List, [], ◌∷◌, ◌++◌}
use native.Mathlib.Nat.{suc_inj}
use native.Mathlib.Omega.{arith}
use lib.ListN.{length, take, drop, replicate, take-append-drop}
use lib.Seq.{length-take-le}
use Rattle.octets.proofs.BoolLaws.{or_false}
use Rattle.bits.specs.Places.{begins, until}
use Rattle.bits.proofs.UntilLaws.{until_le}
use Rattle.zeros.specs.Parts.{Calm}
use Rattle.line.specs.Line.{flag_here, ends}

-- a test that first holds further on does not hold here
until_on : (test : List Bool → Bool) (b : Bool) (l : List Bool) (m : ℕ) → until test (b ∷ l) ≡ suc m → (test (b ∷ l) ≡ false) × (until test l ≡ m)
unfolding until
until_on test b l m = go (test (b ∷ l))
  where
    go : (t : Bool) → cond t 0 (suc (until test l)) ≡ suc m → (t ≡ false) × (until test l ≡ m)
    go true e = absurd (omega arith)
    go false e = (refl, suc_inj e)

-- either bit or nothing stands first, and nothing does not end a stretch
one_stands : (c r : List Bool) → begins (true ∷ []) (c ++ r) ≡ false → begins (false ∷ []) (c ++ r) ≡ false → ends r ≡ true → ⊥
unfolding begins
one_stands [] [] t f e = false≢true e
one_stands [] (true ∷ r) t f e = false≢true (sym t)
one_stands [] (false ∷ r) t f e = false≢true (sym f)
one_stands (true ∷ c) r t f e = false≢true (sym t)
one_stands (false ∷ c) r t f e = false≢true (sym f)

-- Where n more ones may stand, the last zero begins no flag, and the one behind it no seven ones; behind the zero itself, where five may, there is no one yet.
run_calm : (n : ℕ) (c r : List Bool) → until ends (c ++ r) ≡ length c → ends r ≡ true
    → begins (replicate (suc n) true ++ false ∷ []) (c ++ r) ≡ false → (n ≡ 5) ⊎ (begins (replicate (suc (suc n)) true) (c ++ r) ≡ false) → Calm n c
unfolding begins
run_calm n [] r u e f s = tt
run_calm n (false ∷ c) r u e f s =
    let p = until_on ends false (c ++ r) (length c) u in
    run_calm 5 c r p.1 e (or_false _ _ p.0).0 (inl refl)
run_calm zero (true ∷ c) r u e f (inl k) = absurd (omega arith)
run_calm zero (true ∷ c) r u e f (inr s) = one_stands c r s f e
run_calm (suc n) (true ∷ c) r u e f s =
    let p = until_on ends true (c ++ r) (length c) u in
    run_calm n c r p.1 e f (inr (seven n (c ++ r) p.0 s))
  where
    seven : (n : ℕ) (l : List Bool) → ends (true ∷ l) ≡ false → (suc n ≡ 5) ⊎ (begins (replicate (suc (suc (suc n))) true) (true ∷ l) ≡ false)
        → begins (replicate (suc (suc n)) true) l ≡ false
    seven n l e (inl k) = ap (λ (m : ℕ). begins (replicate (suc (suc m)) true) l) (suc_inj k) ∙ e
    seven n l e (inr s) = s

-- what follows a zero that begins no flag, up to what ends it
pub stretch_calm : (l : List Bool) → flag_here (false ∷ l) ≡ false → ends (drop (until ends l) l) ≡ true → Calm 5 (take (until ends l) l)
unfolding begins
stretch_calm l f e =
    let m : ℕ = until ends l in
    let w : take m l ++ drop m l ≡ l = take-append-drop m l in
    run_calm 5 (take m l) (drop m l) (ap (until ends) w ∙ sym (length-take-le m l (until_le ends l))) e (ap (begins (replicate 6 true ++ false ∷ [])) w ∙ f) (inl refl)
