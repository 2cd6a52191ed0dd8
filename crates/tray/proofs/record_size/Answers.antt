use Prim.Native.Nat.{ℕ, ◌+◌, ◌<◌}
use mathlib.Core.Path.{◌≡◌, refl, ◌∙◌}
use mathlib.Core.Bool.{Bool, true, false, ◌&&◌}
use mathlib.Core.List.{List}
use native.Mathlib.Omega.{arith}
use lib.Dec.{eqb, leb}
use lib.ListN.{length}
use Rattle.octets.specs.Records.{following, kind}
use Rattle.tray.specs.Tray.{whole}
use Rattle.tray.proofs.ReadLaws.{whole_known}
use Rattle.tray.proofs.record_size.Goals as goal

-- of length and kind as they were read
judged : (r : List ℕ) (n k : ℕ) → n ≡ following r → k ≡ kind r → whole r ≡ (eqb k 1 && leb 2 n && leb (2 + n) (length r))
unfolding whole
judged r n k en ek = rw (en, ek) refl

-- a record has four octets before its frame
none_there : (r : List ℕ) → length r < 4 → whole r ≡ false
none_there r h = go (whole r) refl where
  go : (v : Bool) → whole r ≡ v → whole r ≡ false
  go true w = let k = whole_known r w in absurd (omega (arith, k.long, k.here))
  go false w = w

pub returns-then-rest-lt4 : goal.returns-then-rest-lt4
returns-then-rest-lt4 c = none_there c.args.rest.now c.if-rest-lt4.true

pub returns-then-whole : goal.returns-then-whole
returns-then-whole c =
    let k = c.two_octets in
    let n = c.two_octets-n in
    (judged c.args.rest.now n.result k.result n.ensures.0 k.ensures.0 ∙ c.if-whole.true, omega (arith, n.ensures.0))

pub returns-else-whole : goal.returns-else-whole
returns-else-whole c =
    let k = c.two_octets in
    let n = c.two_octets-n in
    judged c.args.rest.now n.result k.result n.ensures.0 k.ensures.0 ∙ c.if-whole.false
