-- How long a frame is after a pass, and the passes as they are put into a buffer.
use Rattle.std.proofs.Common.{◌≡◌, ℕ, ◌+◌, ◌-◌, ◌*◌, ◌≤◌, min, List, ◌++◌, length, take, drop, set, sym, refl, ap, ◌∙◌, ap₂, arith, length-append, length-drop, length-set, length-take, length-take-le, take-take, take_at, take-add}
use borrow.Rule.Slice.PartMut.{mid_of, put_mid}
use lib.Seq.{set-append_left}
use Rattle.octets.specs.Octets.{octet}
use Rattle.octets.proofs.PartLaws.{tail_of, tail_put}
use Rattle.plain_check.specs.Check.{check_octets}
use Rattle.plain_passes.specs.Passes.{voice_field, blocks_dropped, drop_pass, stamp_pass, address_pass, seal_pass, passed}

less_min : (m k : ℕ) → 8 + min (m - k) m + 2 ≡ 10 + (m - k)
less_min m k = omega arith

sizes : (n k : ℕ) → 10 ≤ n → min 8 n + min (n - 10 - k) (min (n - 10) (n - 8)) + (n - (n - 2)) ≡ 10 + (n - 10 - k)
sizes n k h =
    let a : min 8 n ≡ 8 = omega arith in
    let b : min (n - 10) (n - 8) ≡ n - 10 = omega arith in
    let c : n - (n - 2) ≡ 2 = omega arith in
    rw (a, b, c) (less_min (n - 10) k)

pub drop_length : (level : ℕ) (f : List ℕ) → 10 ≤ length f → length (drop_pass level f) ≡ 10 + (length f - 10 - 16 * blocks_dropped level f)
unfolding drop_pass
drop_length level f long = simp (length-append, length-set, length-take, length-drop) (sizes (length f) (16 * blocks_dropped level f) long)

-- the passes after the first leave the length as it is
seal_length : (f : List ℕ) → 2 ≤ length f → length (seal_pass f) ≡ length f
unfolding seal_pass check_octets
seal_length f h = length-append (take (length f - 2) f) (check_octets (take 8 f)) ∙ omega (arith, length-take-le (length f - 2) f (omega arith))

pub passed_length : (level wait addr : ℕ) (f : List ℕ) → 10 ≤ length f → length (passed level wait addr f) ≡ length (drop_pass level f)
unfolding passed address_pass stamp_pass
passed_length level wait addr f long =
    let same : length (address_pass addr (stamp_pass wait (drop_pass level f))) ≡ length (drop_pass level f) = simp length-set refl in
    seal_length (address_pass addr (stamp_pass wait (drop_pass level f))) (omega (arith, drop_length level f long)) ∙ same

-- one: the front of the frame is copied, its last two octets after it, and octet 5 is set
module _ (level : ℕ) (f : List ℕ) (long : 10 ≤ length f) where
  abbrev m : ℕ
  m = length f - 10 - 16 * blocks_dropped level f

  -- the buffer is as long as it was, once its front is copied
  pub copied : (out h : List ℕ) (kept : ℕ) → length out ≡ length (drop_pass level f) → kept ≡ length out - 2 → length h ≡ length (take kept out) → (2 ≤ length out) × (length (h ++ drop kept out) ≡ length out)
  copied out h kept eo ek eh =
      let size : length out ≡ 10 + m = eo ∙ drop_length level f long in
      (omega arith, length-append h (drop kept out) ∙ omega (arith, length-take-le kept out (omega arith), length-drop kept out))

  front : (v : ℕ) → set (take (8 + m) f) 4 v ≡ set (take 8 f) 4 v ++ take m (voice_field f)
  front v =
      ap (λ (l : List ℕ). set l 4 v) (take-add 8 m f)
      ∙ set-append_left (take 8 f) (take m (drop 8 f)) 4 v (omega (arith, length-take-le 8 f (omega arith)))
      ∙ ap (λ (l : List ℕ). set (take 8 f) 4 v ++ l) (sym (take-take m (length f - 10) (drop 8 f) (omega arith)))

  pub drop_put : (out h p : List ℕ) (v kept end : ℕ) → length out ≡ length (drop_pass level f) → kept ≡ length out - 2 → end ≡ length f - 2
      → v ≡ octet 5 f - blocks_dropped level f → h ≡ take kept f → p ≡ mid_of end (length f - end) f
      → set (put_mid kept (length (h ++ drop kept out) - kept) (h ++ drop kept out) p) 4 v ≡ drop_pass level f
  unfolding drop_pass
  drop_put out h p v kept end eo ek ee ev eh ep =
      let size : length out ≡ 10 + m = eo ∙ drop_length level f long in
      let front_length : kept ≡ 8 + m = omega arith in
      let l : length h ≡ kept = ap length eh ∙ length-take-le kept f (omega arith) in
      let room : kept ≤ length (h ++ drop kept out) = rw length-append (omega arith) in
      let last : p ≡ drop (length f - 2) f = ep ∙ tail_of end f ∙ ap (λ (k : ℕ). drop k f) ee in
      ap (λ (y : List ℕ). set y 4 v) (tail_put kept (h ++ drop kept out) p room ∙ ap₂ (λ (y z : List ℕ). y ++ z) (take_at h (drop kept out) kept l ∙ eh) last)
      ∙ set-append_left (take kept f) (drop (length f - 2) f) 4 v (omega (arith, ap length eh))
      ∙ ap (λ (y : List ℕ). y ++ drop (length f - 2) f) (ap₂ (λ (k w : ℕ). set (take k f) 4 w) front_length ev ∙ front (octet 5 f - blocks_dropped level f))
