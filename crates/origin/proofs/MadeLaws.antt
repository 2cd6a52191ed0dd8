-- Both writers make octets 1 to 8 alike: whatever the kind, the frame passes 1 to 5 with 24.
use Prim.Native.Nat.{ℕ, ◌+◌, ◌*◌, ◌/◌, ◌%◌, ◌≤◌}
use mathlib.Core.Path.{◌≡◌, refl, ap, ◌∙◌}
use mathlib.Core.Bool.{false, ◌&&◌, not}
use mathlib.Core.List.{List, [], ◌∷◌}
use native.Mathlib.Omega.{arith}
use lib.Dec.{eqb}
use lib.ListN.{length}
use Rattle.refusals.specs.Refusals.{address_bad}
use Rattle.refusals.proofs.RefusalLaws.{in_range}
use Rattle.fcs.specs.Fcs.{fcs_good}
use Rattle.frame.specs.Fields.{covered}
use Rattle.frame.proofs.FrameLaws.{Linked}
use Rattle.onward.specs.Onward.{framed}
use Rattle.onward.proofs.OnwardLaws.{framed_length, framed_good}

module _ (addr control fifth seventh eighth : ℕ) (v : List ℕ) where
  abbrev pub made_of : List ℕ
  made_of = framed (addr / 128 * 4 ∷ (addr % 128 * 2 + 1) ∷ control ∷ 68 ∷ fifth ∷ 0 ∷ seventh ∷ eighth ∷ []) v

  -- of a control octet of either kind, its poll bit 0, and a voice field that the check leaves out
  pub made_linked : address_bad addr ≡ false → length v ≤ 480
      → (not (eqb (control / 32 * 32 + control % 16) 239) && not (eqb (control / 32 * 32 + control % 16) 3)) ≡ false → control / 16 % 2 ≡ 0
      → covered made_of ≡ 8 → Linked made_of
  unfolding framed
  made_linked inside fits known poll covers =
      let r = in_range addr inside in
      let head : List ℕ = addr / 128 * 4 ∷ (addr % 128 * 2 + 1) ∷ control ∷ 68 ∷ fifth ∷ 0 ∷ seventh ∷ eighth ∷ [] in
      record {
        long = omega (arith, framed_length head v);
        short = omega (arith, framed_length head v);
        bit1 = omega arith;
        bit2 = omega arith;
        addr_low = omega arith;
        addr_high = omega arith;
        known = known;
        command = omega arith;
        poll = poll;
        check = ap (λ (n : ℕ). fcs_good n made_of) covers ∙ framed_good head v refl;
        ident = refl;
      }
