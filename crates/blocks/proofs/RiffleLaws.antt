-- Octets that change places: a riffle of 128 octets, a riffle of eight rows of sixteen, and where several riffles take each octet from. Assumes nothing.
use mathlib.Core.Path.{◌≡◌, refl, sym, ap, ◌∙◌}
use mathlib.Core.List.{List, [], ◌∷◌, ◌++◌, append_assoc, append-nil}
use Prim.Native.Nat.{ℕ, zero, suc, ◌+◌, ◌-◌, ◌*◌, ◌/◌, ◌%◌, ◌≤◌, ◌<◌}
use native.Mathlib.Nat.{add-zero}
use native.Mathlib.Numerals.{add-one}
use native.Mathlib.Omega.{arith}
use lib.ListN.{length, get_or, set, take, drop, length-drop, drop_of_length-le}
use lib.Seq.{ext_get_or, get_or-take, get_or-drop, length-take-le, take_at, drop_at, drop-drop}
use borrow.Rule.Slice.PartMut.{put_mid, Post-is}
use Rattle.octets.specs.Octets.{tab}
use Rattle.octets.proofs.TabLaws.{agree, tab_more, get_or_tab, length_tab, tab_ext}

-- where a riffle takes octet i from, and a riffle of rows
abbrev pub riffled : ℕ → ℕ
riffled i = i / 2 + i % 2 * 64

abbrev pub rows_riffled : ℕ → ℕ
rows_riffled i = 16 * (i / 32 + i / 16 % 2 * 4) + i % 16

-- octets of xs, each from where `whence` says
abbrev pub taken : (ℕ → ℕ) → List ℕ → ℕ → ℕ
taken whence xs i = get_or xs (whence i) 0

-- when all 128 are taken nothing is left of what stood there
pub taken_all : (f : ℕ → ℕ) (O : List ℕ) → length O ≡ 128 → tab f 128 ++ drop 128 O ≡ tab f 128
taken_all f O l = rw (drop_of_length-le O {i = 128} (omega arith), append-nil)

-- a turn of the loop that riffles
pub riffle_more : (xs l : List ℕ) (i : ℕ) → 2 * i + 1 < length l → let f : ℕ → ℕ = taken riffled xs in
    set (set (tab f (2 * i) ++ drop (2 * i) l) (2 * i) (get_or xs i 0)) (2 * i + 1) (get_or xs (64 + i) 0) ≡ tab f (2 * (i + 1)) ++ drop (2 * (i + 1)) l
riffle_more xs l i h =
    let f : ℕ → ℕ = taken riffled xs in
    let x : get_or xs i 0 ≡ f (2 * i) = ap (λ (n : ℕ). get_or xs n 0) (omega arith) in
    let y : get_or xs (64 + i) 0 ≡ f (suc (2 * i)) = ap (λ (n : ℕ). get_or xs n 0) (omega arith) in
    let e : 2 * (i + 1) ≡ suc (suc (2 * i)) = omega arith in
    rw (x, y, e, add-one (2 * i), tab_more f l (2 * i) (omega arith)) (tab_more f l (suc (2 * i)) (omega arith))

-- a list in two parts, and a part of a list
tab_add : (f : ℕ → ℕ) (m n : ℕ) → tab f m ++ tab (λ i. f (m + i)) n ≡ tab f (m + n)
unfolding tab
tab_add f m zero = rw (append-nil, add-zero)
tab_add f m (suc n) =
    let e : m + suc n ≡ suc (m + n) = omega arith in
    rw e (sym (append_assoc (tab f m) (tab (λ i. f (m + i)) n) (f (m + n) ∷ [])) ∙ ap (λ (l : List ℕ). l ++ (f (m + n) ∷ [])) (tab_add f m n))

pub part_length : (xs : List ℕ) (a n : ℕ) → a + n ≤ length xs → length (take n (drop a xs)) ≡ n
part_length xs a n h = length-take-le n (drop a xs) (omega (arith, length-drop a xs))

pub part_tab : (xs : List ℕ) (a n : ℕ) → a + n ≤ length xs → take n (drop a xs) ≡ tab (λ i. get_or xs (a + i) 0) n
part_tab xs a n h =
    let l : length (take n (drop a xs)) ≡ n = part_length xs a n h in
    ext_get_or 0 (take n (drop a xs)) (tab (λ i. get_or xs (a + i) 0) n) (l ∙ sym (length_tab (λ i. get_or xs (a + i) 0) n))
    (λ i k. let m : i < n = omega arith in
    get_or-take n (drop a xs) i 0 m ∙ get_or-drop a xs i 0 ∙ sym (get_or_tab (λ i. get_or xs (a + i) 0) n i 0 m))

-- the sixteen octets from `at` on
pub sixteen : (xs : List ℕ) (at : ℕ) → take (at + 16 - at) (drop at xs) ≡ take 16 (drop at xs)
sixteen xs at = let e : at + 16 - at ≡ 16 = omega arith in ap (λ (n : ℕ). take n (drop at xs)) e

row_at : (row i : ℕ) → i < 16 → 16 * (row / 2 + row % 2 * 4) + i ≡ rows_riffled (16 * row + i)
row_at row i h =
    let e : (16 * row + i) / 32 ≡ row / 2 = omega arith in
    let f : (16 * row + i) / 16 ≡ row = omega arith in
    let g : (16 * row + i) % 16 ≡ i = omega arith in
    rw (e, f, g)

-- a turn of the loop that riffles rows: the next row is copied to its place
pub rows_more : (xs O to p : List ℕ) (row : ℕ) → length xs ≡ 128 → length to ≡ 128 → row < 8 → let f : ℕ → ℕ = taken rows_riffled xs in
    let a : ℕ = 16 * (row / 2 + row % 2 * 4) in
    to ≡ tab f (16 * row) ++ drop (16 * row) O → p ≡ take (a + 16 - a) (drop a xs)
    → put_mid (16 * row) (16 * row + 16 - 16 * row) to p ≡ tab f (16 * (row + 1)) ++ drop (16 * (row + 1)) O
rows_more xs O to p row hx ht h et ep =
    let f : ℕ → ℕ = taken rows_riffled xs in
    let a : ℕ = 16 * (row / 2 + row % 2 * 4) in
    let n : ℕ = 16 * row in
    let row_is : p ≡ tab (λ i. f (n + i)) 16 = ep ∙ sixteen xs a ∙ part_tab xs a 16 (omega arith) ∙ tab_ext (λ i. get_or xs (a + i) 0) (λ i. f (n + i)) 16 (λ i k. ap (λ (m : ℕ). get_or xs m 0) (row_at row i k)) in
    let front : take n to ≡ tab f n = ap (take n) et ∙ take_at (tab f n) (drop n O) n (length_tab f n) in
    let rest : drop n to ≡ drop n O = ap (drop n) et ∙ drop_at (tab f n) (drop n O) n (length_tab f n) in
    let back : drop (n + 16) to ≡ drop (n + 16) O = sym (drop-drop 16 n to) ∙ ap (drop 16) rest ∙ drop-drop 16 n O in
    let e : 16 * (row + 1) ≡ n + 16 = omega arith in
    rw (Post-is n (n + 16) to (omega arith), front, back, row_is, e, ← tab_add f n 16, append_assoc)

-- ---- where several riffles take an octet from, computed for all 128

riffled_at : (xs : List ℕ) (i : ℕ) → i < 128 → get_or (tab (taken riffled xs) 128) i 0 ≡ get_or xs (riffled i) 0
riffled_at xs i h = get_or_tab (taken riffled xs) 128 i 0 h

riffled_lt : (i : ℕ) → i < 128 → riffled i < 128
riffled_lt i h = omega arith

-- three, and four
module _ (xs a b c : List ℕ) (ea : a ≡ tab (taken riffled xs) 128) (eb : b ≡ tab (taken riffled a) 128) (ec : c ≡ tab (taken riffled b) 128) where
  pub three_riffles : (i : ℕ) → i < 128 → get_or c i 0 ≡ get_or xs (16 * (i % 8) + i / 8) 0
  unfolding tab
  three_riffles i h =
      let h' : riffled i < 128 = riffled_lt i h in
      rw (ec, riffled_at b i h, eb, riffled_at a (riffled i) h', ea, riffled_at xs (riffled (riffled i)) (riffled_lt (riffled i) h'))
      (ap (λ (n : ℕ). get_or xs n 0) (agree (λ i. riffled (riffled (riffled i))) (λ i. 16 * (i % 8) + i / 8) 128 refl i h))

  pub four_riffles : (d : List ℕ) → d ≡ tab (taken riffled c) 128 → (i : ℕ) → i < 128 → get_or d i 0 ≡ get_or xs (8 * (i % 16) + i / 16) 0
  unfolding tab
  four_riffles d ed i h =
      rw (ed, riffled_at c i h)
      (three_riffles (riffled i) (riffled_lt i h) ∙ ap (λ (n : ℕ). get_or xs n 0) (agree (λ i. 16 * (riffled i % 8) + riffled i / 8) (λ i. 8 * (i % 16) + i / 16) 128 refl i h))
