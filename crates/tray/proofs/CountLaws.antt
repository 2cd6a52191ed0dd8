-- Counting a tray's records: a record more, and what the count says of 27.
use Prim.Native.Nat.{ℕ, ◌+◌, ◌-◌, ◌≤◌}
use mathlib.Core.Path.{◌≡◌, refl, sym, ap, ap₂, ◌∙◌}
use mathlib.Core.Bool.{Bool, true, false, ◌||◌}
use mathlib.Core.List.{List}
use native.Mathlib.Omega.{arith}
use lib.Dec.{ltb}
use lib.ListN.{length, drop, length-drop}
use borrow.Rule.Slice.PartMut.{mid_of}
use borrow.Author.Tests.{ltb-true, ltb-false, lt-ltb, le-ltb}
use Rattle.octets.specs.Records.{following}
use Rattle.octets.proofs.PartLaws.{tail_of}
use Rattle.refusals.specs.Refusals.{refuse}
use Rattle.tray.specs.Tray.{whole, Read, read, tray_refusal}
use Rattle.tray.specs.Parts.{Counts}
use Rattle.tray.proofs.ReadLaws.{next_size, next_read, read_none}

-- so many records, and then what is left from `end` on
pub record CountedTo (tray : List ℕ) (count end : ℕ) : Type 0 where
  pub within : end ≤ length tray
  pub few : count ≤ end
  pub many : count + length (read (drop end tray)).frames ≡ length (read tray).frames
  pub behind : (read (drop end tray)).left ≡ (read tray).left

pub count_start : (tray : List ℕ) → CountedTo tray 0 0
count_start tray = record { within = omega arith; few = omega arith; many = omega arith; behind = refl }

-- what is left, as it is lent
module _ (tray : List ℕ) (count end : ℕ) (t : CountedTo tray count end) where
  module _ (size : ℕ) (w : whole (mid_of end (length tray - end) tray) ≡ true) (e : size ≡ 2 + following (mid_of end (length tray - end) tray)) where
    is_whole : whole (drop end tray) ≡ true
    is_whole = sym (ap whole (tail_of end tray)) ∙ w

    sized : size ≡ 2 + following (drop end tray)
    sized = e ∙ ap (λ (r : List ℕ). 2 + following r) (tail_of end tray)

    pub count_size : (4 ≤ size) × (end + size ≤ length tray)
    count_size =
        let s = next_size tray end (following (drop end tray)) is_whole refl t.within in
        (omega (arith, s.0, sized), omega (arith, s.1, sized))

    pub count_next : CountedTo tray (count + 1) (end + size)
    count_next =
        let n = next_read tray end (following (drop end tray)) is_whole refl in
        let b : end + (2 + following (drop end tray)) ≡ end + size = omega (arith, sized) in
        let f = ap (λ (r : Read). length r.frames) n in
        let g = ap (λ (i : ℕ). length (read (drop i tray)).frames) b in
        record {
          within = count_size.1;
          few = omega (arith, t.few, count_size.0);
          many = omega (arith, t.many, f, g);
          behind = sym (ap (λ (r : Read). r.left) n ∙ ap (λ (i : ℕ). (read (drop i tray)).left) b) ∙ t.behind;
        }

  pub count_over : whole (mid_of end (length tray - end) tray) ≡ false → Counts tray count end
  count_over w =
      let n = read_none (drop end tray) (sym (ap whole (tail_of end tray)) ∙ w) in
      record {
        many = omega (arith, t.many, ap (λ (r : Read). length r.frames) n);
        behind = sym t.behind ∙ ap (λ (r : Read). r.left) n;
        within = t.within;
      }

-- 27, of the count
left_some : (end n m : ℕ) → end ≤ n → m ≡ n - end → ltb 0 m ≡ ltb end n
left_some end n m h e = go (ltb end n) refl where
  go : (v : Bool) → ltb end n ≡ v → ltb 0 m ≡ v
  go true k = lt-ltb 0 m (omega (arith, ltb-true end n k))
  go false k = le-ltb 0 m (omega (arith, ltb-false end n k))

pub tray_judged : (tray : List ℕ) (count end places r : ℕ) → Counts tray count end → r ≡ refuse (ltb end (length tray) || ltb places count) 27 → r ≡ tray_refusal tray places
unfolding tray_refusal
tray_judged tray count end places r n e =
    let t = left_some end (length tray) (length (read tray).left) n.within (ap length n.behind ∙ length-drop end tray) in
    e ∙ ap₂ (λ (b : Bool) (k : ℕ). refuse (b || ltb places k) 27) (sym t) n.many
