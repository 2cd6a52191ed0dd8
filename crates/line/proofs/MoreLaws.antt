-- Bits put behind one another into octets: one step after another, and what stands there at the end.
use Prim.Native.Nat.{ℕ, zero, suc, ◌+◌, ◌-◌, ◌*◌, ◌/◌, ◌%◌, ◌^◌, ◌≤◌, ◌<◌}
use mathlib.Core.Path.{◌≡◌, refl, sym, ap, ap₂, ◌∙◌}
use mathlib.Core.Bool.{Bool}
use mathlib.Core.List.{List, [], ◌∷◌, ◌++◌, append_assoc, append-nil}
use native.Mathlib.Nat.{not-suc-le-zero, lt_of_lt_of_le}
use native.Mathlib.Omega.{arith}
use lib.ListN.{length, get_or, set, take, drop, length-drop, take-append-drop}
use lib.Dec.{lit<}
use lib.Pow.{pow_mono, shl_exact}
use lib.Seq.{drop-drop, take-add}
use Rattle.bits.specs.Bits.{bits, lowest, value, octets_of}
use Rattle.bits.proofs.BitLaws.{length_bits, length_lowest, bits_append, bits_drop, bits_take, front_lt, front_is, lowest_append, joined_lt, octets_of_bits, octet_take}
use Rattle.zeros.specs.Parts.{More}
use Rattle.line.specs.Line.{flag}
use Rattle.line.specs.Parts.{opened}
use Rattle.line.proofs.FindLaws.{length_line}

-- ---- whole octets and nothing held

pub all_out : (out after : List ℕ) (at held n : ℕ) (u : List Bool) → ((i : ℕ) → get_or after i 0 < 256) → More out after 0 0 0 u at held n → length u % 8 ≡ 0
    → after ≡ octets_of (length u / 8) u ++ drop (length u / 8) out
unfolding bits lowest
all_out out after at held n u o m z =
    let none : n ≡ 0 = omega (arith, m.far, m.short) in
    let e : at ≡ length u / 8 = omega (arith, m.far) in
    let all : bits (take at after) ≡ u = sym (append-nil (bits (take at after))) ∙ ap (λ (k : ℕ). bits (take at after) ++ lowest k held) (sym none) ∙ m.is in
    let long : length (take at after) ≡ length u / 8 = omega (arith, length_bits (take at after), ap length all) in
    let front : take at after ≡ octets_of (length u / 8) u = sym (octets_of_bits (take at after) (octet_take at after o)) ∙ ap₂ octets_of long all in
    sym (take-append-drop at after) ∙ ap₂ (λ (x y : List ℕ). x ++ y) front (m.rest ∙ ap (λ (k : ℕ). drop k out) e)

-- ---- what a line is opened with

pub open_empty : (f : List ℕ) (count : ℕ) → count ≡ 0 → 1 ≤ length f → More f (set f 0 126) 0 0 0 (opened (take count (bits f))) 1 0 0
unfolding bits lowest
open_empty [] count e h = absurd (not-suc-le-zero h)
open_empty (x ∷ f) count e h = rw e (record { short = omega arith; fits = omega arith; far = refl; is = refl; rest = refl; long = refl })

opened_some : (n : ℕ) (l : List Bool) → 0 < n → n ≤ length l → opened (take n l) ≡ take n l
opened_some zero l p h = absurd (not-suc-le-zero p)
opened_some (suc n) [] p h = absurd (not-suc-le-zero h)
opened_some (suc n) (b ∷ l) p h = refl

pub open_more : (f : List ℕ) (count w : ℕ) → (count ≡ 0 → ⊥) → count ≤ 8 * length f → w ≡ value (take (count % 8) (drop (count - count % 8) (bits f)))
    → More f f 0 0 0 (opened (take count (bits f))) (count / 8) w (count % 8)
unfolding bits lowest
open_more f count w some h e =
    let n : ℕ = count % 8 in
    let q : ℕ = 8 * (count / 8) in
    let eq : count - n ≡ q = omega arith in
    let lb : length (bits f) ≡ 8 * length f = length_bits f in
    let held : lowest n w ≡ take n (drop q (bits f)) = rw (e, eq) (front_is n (drop q (bits f)) (omega (arith, length-drop q (bits f)))) in
    let whole : q + n ≡ count = omega arith in
    record {
      short = omega arith;
      fits = rw e (front_lt n (drop (count - n) (bits f)));
      far = rw (opened_some count (bits f) (omega arith) (omega arith), length_line f count h) (omega arith);
      is = ap₂ (λ (x y : List Bool). x ++ y) (sym (bits_take (count / 8) f)) held ∙ sym (take-add q n (bits f)) ∙ ap (λ (k : ℕ). take k (bits f)) whole
          ∙ sym (opened_some count (bits f) (omega arith) (omega arith));
      rest = refl;
      long = refl;
    }

-- ---- the end

-- what stands behind is as it came
pub behind : (f g : List ℕ) (at n : ℕ) → drop at g ≡ drop at f → drop (8 * at + n) (bits g) ≡ drop (8 * at + n) (bits f)
behind f g at n e =
    sym (drop-drop n (8 * at) (bits g)) ∙ ap (drop n) (bits_drop at g ∙ ap bits e ∙ sym (bits_drop at f)) ∙ drop-drop n (8 * at) (bits f)

-- all bits, where none is held
pub more_all : (f g : List ℕ) (at held n at₂ held₂ n₂ : ℕ) (more : List Bool) → More f g at held n more at₂ held₂ n₂ → n₂ ≡ 0
    → bits g ≡ bits (take at f) ++ lowest n held ++ more ++ drop (8 * at + n + length more) (bits f)
unfolding lowest
more_all f g at held n at₂ held₂ n₂ more m z =
    let e : 8 * at₂ + n₂ ≡ 8 * at₂ = omega arith in
    let whole : bits g ≡ bits (take at₂ g) ++ lowest n₂ held₂ ++ drop (8 * at₂ + n₂) (bits g) =
    rw (e, bits_drop at₂ g, z, append-nil (bits (take at₂ g))) (ap bits (sym (take-append-drop at₂ g)) ∙ bits_append (take at₂ g) (drop at₂ g)) in
    whole ∙ ap₂ (λ (u v : List Bool). u ++ v) m.is (behind f g at₂ n₂ m.rest ∙ ap (λ (k : ℕ). drop k (bits f)) m.far)

-- the closing flag, and behind it w, the bits that are left of its last octet
module _ (f : List ℕ) (at held n w : ℕ) (hn : n < 8) (room : 8 * at + n + 8 ≤ 8 * length f)
    (ew : w ≡ value (take ((8 - n) % 8) (drop (8 * at + n + 8) (bits f)))) where
  abbrev left : ℕ
  left = (8 - n) % 8

  abbrev x : ℕ
  x = 126 + w * 256

  fits : w < 2 ^ left
  fits = rw ew (front_lt left (drop (8 * at + n + 8) (bits f)))

  pub up : w * 256 % 18446744073709551616 ≡ w * 256
  up = shl_exact {a = w} left 8 64 fits (omega arith)

  flag_left : lowest (8 + left) x ≡ flag ++ take left (drop (8 * at + n + 8) (bits f))
  unfolding lowest
  flag_left =
      lowest_append 8 left 126 w (lit< tt)
      ∙ ap (λ (l : List Bool). flag ++ l)
      (ap (lowest left) ew ∙ front_is left (drop (8 * at + n + 8) (bits f)) (omega (arith, length-drop (8 * at + n + 8) (bits f), length_bits f)))

  -- the numbers of the code fit
  pub flag_fits : x < 2 ^ (8 + left)
  flag_fits = joined_lt 8 left 126 w (lit< tt) fits

  pub flag_word : x < 2 ^ 64
  flag_word = lt_of_lt_of_le flag_fits (pow_mono {i = 8 + left} {j = 64} (omega arith))

  pub closed_by : (g : List ℕ) (at₂ held₂ n₂ : ℕ) → More f g at held n (lowest (8 + left) x) at₂ held₂ n₂
      → bits g ≡ bits (take at f) ++ lowest n held ++ flag ++ drop (8 * at + n + 8) (bits f)
  closed_by g at₂ held₂ n₂ m =
      let all : 8 * at + n + length (lowest (8 + left) x) ≡ 8 * at + n + 8 + left = omega (arith, length_lowest (8 + left) x) in
      let front : List Bool = bits (take at f) ++ lowest n held in
      let rest : List Bool = drop (8 * at + n + 8) (bits f) in
      more_all f g at held n at₂ held₂ n₂ (lowest (8 + left) x) m (omega (arith, m.far, m.short, length_lowest (8 + left) x))
      ∙ rw (all, ← drop-drop left (8 * at + n + 8) (bits f), flag_left, ← append_assoc front flag (take left rest), append_assoc (front ++ flag) (take left rest) (drop left rest), take-append-drop left rest)
