-- A store read from a place on, round its end: a place further on, and what is written from there.
use Prim.Native.Nat.{ℕ, suc, ◌+◌, ◌-◌, ◌≤◌, ◌<◌, min}
use mathlib.Core.Path.{◌≡◌, refl, sym, ap, ap₂, ◌∙◌}
use mathlib.Core.Bool.{Bool, true, false, cond}
use mathlib.Core.List.{List, [], ◌∷◌, ◌++◌, append_assoc, append-nil}
use native.Mathlib.Numerals.{add-one}
use native.Mathlib.Omega.{arith}
use lib.Dec.{ltb, leb}
use lib.ListN.{length, take, drop, set, length-append, length-set, length-take, length-drop, take-append-drop, drop_of_length-le}
use lib.Seq.{take_at, drop_at, take_all, take-take, drop-drop, take-add, take-append-le, drop-append-le, take-append-add, drop-append-add, length-take-le, set_split}
use borrow.Author.Tests.{ltb-true, ltb-false, leb-true, leb-false}
use Rattle.ring.specs.Ring.{place_after, turned, laid}

pub turned_length : (h : ℕ) (s : List ℕ) → length (turned h s) ≡ length s
unfolding turned
turned_length h s = simp (length-append, length-drop, length-take) (omega arith)

pub turned_of : (a b : List ℕ) (h : ℕ) → length a ≡ h → turned h (a ++ b) ≡ b ++ a
unfolding turned
turned_of a b h e = ap₂ ◌++◌ (drop_at a b h e) (take_at a b h e)

pub turned_near : (h u : ℕ) (s : List ℕ) → h + u ≤ length s → turned (h + u) s ≡ turned u (turned h s)
unfolding turned
turned_near h u s l =
    let ld : u ≤ length (drop h s) = omega (arith, length-drop h s) in
    let d : drop u (drop h s ++ take h s) ≡ drop (h + u) s ++ take h s =
    drop-append-le u (drop h s) (take h s) ld ∙ ap (λ (x : List ℕ). x ++ take h s) (drop-drop u h s) in
    let t : take u (drop h s ++ take h s) ≡ take u (drop h s) = take-append-le u (drop h s) (take h s) ld in
    ap (λ (x : List ℕ). drop (h + u) s ++ x) (take-add h u s) ∙ sym (append_assoc (drop (h + u) s) (take h s) (take u (drop h s))) ∙ ap₂ ◌++◌ (sym d) (sym t)

pub turned_far : (h u v : ℕ) (s : List ℕ) → h ≤ length s → v ≤ h → length s - h + v ≡ u → turned v s ≡ turned u (turned h s)
unfolding turned
turned_far h u v s lh lv e =
    let e' : u ≡ length (drop h s) + v = omega (arith, length-drop h s) in
    let d : drop u (drop h s ++ take h s) ≡ drop v (take h s) = ap (λ (k : ℕ). drop k (drop h s ++ take h s)) e' ∙ drop-append-add (drop h s) (take h s) v in
    let t : take u (drop h s ++ take h s) ≡ drop h s ++ take v s =
    ap (λ (k : ℕ). take k (drop h s ++ take h s)) e' ∙ take-append-add (drop h s) (take h s) v ∙ ap (λ (x : List ℕ). drop h s ++ x) (take-take v h s lv) in
    let w : drop v s ≡ drop v (take h s) ++ drop h s =
    ap (drop v) (sym (take-append-drop h s)) ∙ drop-append-le v (take h s) (drop h s) (omega (arith, length-take-le h s lh)) in
    ap (λ (x : List ℕ). x ++ take v s) w ∙ append_assoc (drop v (take h s)) (drop h s) (take v s) ∙ ap₂ ◌++◌ (sym d) (sym t)

-- the store from the place u octets after h on
pub turned_after : (h u : ℕ) (s : List ℕ) → h ≤ length s → u ≤ length s → turned (place_after h u (length s)) s ≡ turned u (turned h s)
turned_after h u s lh lu = go (ltb (h + u) (length s)) refl where
  go : (b : Bool) → ltb (h + u) (length s) ≡ b → turned (cond b (h + u) (h + u - length s)) s ≡ turned u (turned h s)
  go true e = let l : h + u < length s = ltb-true _ _ e in turned_near h u s (omega arith)
  go false e = let l : length s ≤ h + u = ltb-false _ _ e in turned_far h u (h + u - length s) s lh (omega arith) (omega arith)

pub place_within : (h u n : ℕ) → h ≤ n → u ≤ n → place_after h u n ≤ n
place_within h u n lh lu = go (ltb (h + u) n) refl where
  go : (b : Bool) → ltb (h + u) n ≡ b → cond b (h + u) (h + u - n) ≤ n
  go true e = let l : h + u < n = ltb-true _ _ e in omega arith
  go false e = omega arith

-- one of n, where it was one of n
pub place_below : (h u n : ℕ) → h < n → u ≤ n → place_after h u n < n
place_below h u n lh lu = go (ltb (h + u) n) refl where
  go : (b : Bool) → ltb (h + u) n ≡ b → cond b (h + u) (h + u - n) < n
  go true e = ltb-true _ _ e
  go false e = omega arith

-- octets that do not go round
pub turned_straight : (h n : ℕ) (s : List ℕ) → h ≤ length s → n ≤ length s - h → take n (turned h s) ≡ take n (drop h s)
unfolding turned
turned_straight h n s lh ln = take-append-le n (drop h s) (take h s) (omega (arith, length-drop h s))

-- turned on, and back
pub turned_back : (h k : ℕ) (s : List ℕ) → h + k ≡ length s → turned k (turned h s) ≡ s
unfolding turned
turned_back h k s e = turned_of (drop h s) (take h s) k (length-drop h s ∙ omega arith) ∙ take-append-drop h s

-- as long as the ring is
over_length : (h : ℕ) (x s : List ℕ) → length x ≤ length s → length (x ++ drop (length x) (turned h s)) ≡ length s
over_length h x s l = simp (length-append, length-drop, turned_length) (omega arith)

-- what was laid stands at its place, and all else as it did
pub laid_there : (h : ℕ) (x s : List ℕ) → h ≤ length s → length x ≤ length s → turned h (laid h x s) ≡ x ++ drop (length x) (turned h s)
unfolding laid
laid_there h x s lh lx =
    turned_back (length s - h) h (x ++ drop (length x) (turned h s)) (omega (arith, over_length h x s lx))

pub laid_is : (h : ℕ) (x s t : List ℕ) → h ≤ length s → length t ≡ length s → turned h t ≡ x ++ drop (length x) (turned h s) → t ≡ laid h x s
unfolding laid
laid_is h x s t lh e k = sym (turned_back h (length s - h) t (omega arith)) ∙ ap (turned (length s - h)) k

pub laid_length : (h : ℕ) (x s : List ℕ) → length x ≤ length s → length (laid h x s) ≡ length s
unfolding laid
laid_length h x s l = turned_length (length s - h) (x ++ drop (length x) (turned h s)) ∙ over_length h x s l

-- what was written u octets on, seen from the place before
written : (R T f : List ℕ) (u : ℕ) → u + length f ≤ length R → length T ≡ length R → turned u T ≡ f ++ drop (length f) (turned u R)
    → T ≡ take u R ++ f ++ drop (u + length f) R
unfolding turned
written R T f u l e h =
    let m : ℕ = length f in
    let k : ℕ = length R - u in
    let d : drop m (drop u R ++ take u R) ≡ drop (u + m) R ++ take u R =
    drop-append-le m (drop u R) (take u R) (omega (arith, length-drop u R)) ∙ ap (λ (x : List ℕ). x ++ take u R) (drop-drop m u R) in
    let whole : drop u T ++ take u T ≡ (f ++ drop (u + m) R) ++ take u R = h ∙ ap (λ (x : List ℕ). f ++ x) d ∙ sym (append_assoc f (drop (u + m) R) (take u R)) in
    let lT : length (drop u T) ≡ k = omega (arith, length-drop u T) in
    let lF : length (f ++ drop (u + m) R) ≡ k = omega (arith, length-append f (drop (u + m) R), length-drop (u + m) R) in
    let back : drop u T ≡ f ++ drop (u + m) R = sym (take_at (drop u T) (take u T) k lT) ∙ ap (take k) whole ∙ take_at (f ++ drop (u + m) R) (take u R) k lF in
    let front : take u T ≡ take u R = sym (drop_at (drop u T) (take u T) k lT) ∙ ap (drop k) whole ∙ drop_at (f ++ drop (u + m) R) (take u R) k lF in
    sym (take-append-drop u T) ∙ ap₂ ◌++◌ front back ∙ sym (append_assoc (take u R) f (drop (u + m) R))

-- what was laid u places after h, seen from h
pub laid_after : (h u : ℕ) (x s : List ℕ) → h ≤ length s → u + length x ≤ length s
    → turned h (laid (place_after h u (length s)) x s) ≡ take u (turned h s) ++ x ++ drop (u + length x) (turned h s)
laid_after h u x s lh lx =
    let p : ℕ = place_after h u (length s) in
    let T : List ℕ = laid p x s in
    let lu : u ≤ length s = omega arith in
    let lp : p ≤ length s = place_within h u (length s) lh lu in
    let lT : length T ≡ length s = laid_length p x s (omega arith) in
    let seen : turned u (turned h T) ≡ x ++ drop (length x) (turned u (turned h s)) =
    sym (turned_after h u T (omega arith) (omega arith)) ∙ ap (λ (n : ℕ). turned (place_after h u n) T) lT ∙ laid_there p x s lp (omega arith)
    ∙ ap (λ (r : List ℕ). x ++ drop (length x) r) (turned_after h u s lh lu) in
    written (turned h s) (turned h T) x u (omega (arith, turned_length h s)) (turned_length h T ∙ lT ∙ sym (turned_length h s)) seen

-- one number set is one laid
pub set_laid : (h v : ℕ) (s : List ℕ) → h < length s → set s h v ≡ laid h (v ∷ []) s
unfolding turned
set_laid h v s l =
    let rest : drop 1 (drop h s ++ take h s) ≡ drop (suc h) s ++ take h s =
    drop-append-le 1 (drop h s) (take h s) (omega (arith, length-drop h s)) ∙ ap (λ (r : List ℕ). r ++ take h s) (drop-drop 1 h s ∙ ap (λ (n : ℕ). drop n s) (add-one h)) in
    laid_is h (v ∷ []) s (set s h v) (omega arith) (length-set s h v)
    (ap (turned h) (set_split s h v l) ∙ turned_of (take h s) (v ∷ drop (suc h) s) h (length-take-le h s (omega arith)) ∙ ap (λ (r : List ℕ). v ∷ r) (sym rest))

-- a frame copied in two parts: k octets from a on, and the rest from the store's beginning
pub placed : (a k : ℕ) (s f y z : List ℕ) → a ≤ length s → length f ≤ length s → k ≡ min (length f) (length s - a)
    → y ≡ take a s ++ take k f ++ drop (a + k) s → z ≡ drop k f ++ drop (length f - k) y
    → turned a z ≡ f ++ drop (length f) (turned a s)
unfolding turned
placed a k s f y z la lf ek ey ez = go (leb (length f) (length s - a)) refl where
  m : ℕ
  m = length f

  go : (b : Bool) → leb (length f) (length s - a) ≡ b → drop a z ++ take a z ≡ f ++ drop (length f) (drop a s ++ take a s)
  go true e =
      let l : length f ≤ length s - a = leb-true _ _ e in
      let km : k ≡ length f = omega arith in
      let tk : take k f ≡ f = take_all k f (omega arith) in
      let dk : drop k f ≡ [] = drop_of_length-le f {i = k} (omega arith) in
      let zero_left : length f - k ≡ 0 = omega arith in
      let zy : z ≡ y = ez ∙ ap₂ ◌++◌ dk (ap (λ (i : ℕ). drop i y) zero_left) in
      let zs : z ≡ take a s ++ (f ++ drop (a + length f) s) =
      zy ∙ ey ∙ ap (λ (x : List ℕ). take a s ++ x ++ drop (a + k) s) tk ∙ ap (λ (i : ℕ). take a s ++ f ++ drop (a + i) s) km ∙ append_assoc (take a s) f (drop (a + length f) s) in
      let lt : length (take a s) ≡ a = length-take-le a s la in
      let dz : drop a z ≡ f ++ drop (a + length f) s = ap (drop a) zs ∙ drop_at (take a s) (f ++ drop (a + length f) s) a lt in
      let tz : take a z ≡ take a s = ap (take a) zs ∙ take_at (take a s) (f ++ drop (a + length f) s) a lt in
      let r : drop (length f) (drop a s ++ take a s) ≡ drop (a + length f) s ++ take a s =
      drop-append-le (length f) (drop a s) (take a s) (omega (arith, length-drop a s)) ∙ ap (λ (x : List ℕ). x ++ take a s) (drop-drop (length f) a s) in
      ap₂ ◌++◌ dz tz ∙ append_assoc f (drop (a + length f) s) (take a s) ∙ ap (λ (x : List ℕ). f ++ x) (sym r)
  go false e =
      let l : length s - a < length f = leb-false _ _ e in
      let ks : k ≡ length s - a = omega arith in
      let j : ℕ = length f - k in
      let none : drop (a + k) s ≡ [] = drop_of_length-le s {i = a + k} (omega arith) in
      let lt : length (take a s) ≡ a = length-take-le a s la in
      let ys : y ≡ take a s ++ take k f = ey ∙ ap (λ (x : List ℕ). take a s ++ take k f ++ x) none ∙ append-nil (take a s ++ take k f) in
      let zs : z ≡ (drop k f ++ drop j (take a s)) ++ take k f =
      ez ∙ ap (λ (x : List ℕ). drop k f ++ drop j x) ys ∙ ap (λ (x : List ℕ). drop k f ++ x) (drop-append-le j (take a s) (take k f) (omega arith))
      ∙ sym (append_assoc (drop k f) (drop j (take a s)) (take k f)) in
      let lz : length (drop k f ++ drop j (take a s)) ≡ a = omega (arith, length-append (drop k f) (drop j (take a s)), length-drop k f, length-drop j (take a s)) in
      let dz : drop a z ≡ take k f = ap (drop a) zs ∙ drop_at (drop k f ++ drop j (take a s)) (take k f) a lz in
      let tz : take a z ≡ drop k f ++ drop j (take a s) = ap (take a) zs ∙ take_at (drop k f ++ drop j (take a s)) (take k f) a lz in
      let ef : length f ≡ length (drop a s) + j = omega (arith, length-drop a s) in
      let r : drop (length f) (drop a s ++ take a s) ≡ drop j (take a s) = ap (λ (i : ℕ). drop i (drop a s ++ take a s)) ef ∙ drop-append-add (drop a s) (take a s) j in
      ap₂ ◌++◌ dz tz ∙ sym (append_assoc (take k f) (drop k f) (drop j (take a s))) ∙ ap₂ ◌++◌ (take-append-drop k f) (sym r)

-- n octets copied out in two parts
pub gathered : (a k n : ℕ) (s p x y : List ℕ) → a ≤ length s → n ≤ length s → k ≡ min n (length s - a)
    → x ≡ take k (drop a s) ++ drop k p → n ≤ length p → y ≡ take k x ++ take (n - k) s ++ drop (k + (n - k)) x
    → take n y ≡ take n (turned a s)
unfolding turned
gathered a k n s p x y la ln ek ex lp ey =
    let lk : length (take k (drop a s)) ≡ k = length-take-le k (drop a s) (omega (arith, length-drop a s)) in
    let tx : take k x ≡ take k (drop a s) = ap (take k) ex ∙ take_at (take k (drop a s)) (drop k p) k lk in
    let lr : length (take (n - k) s) ≡ n - k = length-take-le (n - k) s (omega arith) in
    let ly : length (take k (drop a s) ++ take (n - k) s) ≡ n = omega (arith, length-append (take k (drop a s)) (take (n - k) s)) in
    let ty : take n y ≡ take k (drop a s) ++ take (n - k) s =
    ap (take n) (ey ∙ ap (λ (v : List ℕ). v ++ take (n - k) s ++ drop (k + (n - k)) x) tx) ∙ take_at (take k (drop a s) ++ take (n - k) s) (drop (k + (n - k)) x) n ly in
    ty ∙ go (leb n (length s - a)) refl where
      go : (b : Bool) → leb n (length s - a) ≡ b → take k (drop a s) ++ take (n - k) s ≡ take n (drop a s ++ take a s)
      go true e =
          let l : n ≤ length s - a = leb-true _ _ e in
          let kn : k ≡ n = omega arith in
          let z : n - k ≡ 0 = omega arith in
          ap₂ ◌++◌ (ap (λ (i : ℕ). take i (drop a s)) kn) (ap (λ (i : ℕ). take i s) z) ∙ append-nil (take n (drop a s))
          ∙ sym (take-append-le n (drop a s) (take a s) (omega (arith, length-drop a s)))
      go false e =
          let l : length s - a < n = leb-false _ _ e in
          let en : n ≡ length (drop a s) + (n - k) = omega (arith, length-drop a s) in
          let all : take k (drop a s) ≡ drop a s = take_all k (drop a s) (omega (arith, length-drop a s)) in
          ap₂ ◌++◌ all (sym (take-take (n - k) a s (omega arith))) ∙ sym (ap (λ (i : ℕ). take i (drop a s ++ take a s)) en ∙ take-append-add (drop a s) (take a s) (n - k))
