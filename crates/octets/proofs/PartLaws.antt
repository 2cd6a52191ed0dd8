-- A part that is lent, and what the whole holds once it comes back.
use Prim.Native.Nat.{ℕ, suc, ◌+◌, ◌-◌, ◌≤◌, ◌<◌}
use mathlib.Core.Path.{◌≡◌, ap, sym, ◌∙◌}
use mathlib.Core.List.{List, [], ◌∷◌, ◌++◌, append_assoc, append-nil}
use native.Mathlib.Nat.{le_refl}
use native.Mathlib.Numerals.{add-one}
use native.Mathlib.Omega.{arith}
use lib.ListN.{length, get_or, take, drop, set, length-append, length-take, length-drop, drop_of_length-le}
use lib.Seq.{take-suc, drop-cons, set_at, append_snoc, length-take-le, take_at, drop_at, take_all, drop-drop, drop-length, get_or-append-add}
use borrow.Rule.Slice.PartMut.{mid_of, put_mid, Post-is}

-- from a to the end
pub tail_of : (a : ℕ) (xs : List ℕ) → mid_of a (length xs - a) xs ≡ drop a xs
tail_of a xs = take_all (length xs - a) (drop a xs) (rw length-drop (le_refl (length xs - a)))

pub tail_put : (a : ℕ) (xs ys : List ℕ) → a ≤ length xs → put_mid a (length xs - a) xs ys ≡ take a xs ++ ys
tail_put a xs ys h = rw (Post-is a (length xs) xs h, drop-length xs, append-nil ys)

-- d with its first i taken from s
pub copied_length : (s d : List ℕ) (i : ℕ) → i ≤ length s → i ≤ length d → length (take i s ++ drop i d) ≡ length d
copied_length s d i hs hd = simp (length-append, length-take, length-drop) (omega arith)

pub copied_next : {A : Type 0} (s d : List A) (i : ℕ) (a : A) → a ≡ get_or s i a → i < length s → i < length d
    → set (take i s ++ drop i d) i a ≡ take (i + 1) s ++ drop (i + 1) d
copied_next s d i a e hs hd =
    let l : length (take i s) ≡ i = length-take-le i s (omega arith) in
    rw (add-one, take-suc s i a, append_snoc)
    (ap (λ r. set (take i s ++ r) i a) (drop-cons d i a hd) ∙ set_at (take i s) (get_or d i a) (drop (suc i) d) a i l ∙ ap (λ x. take i s ++ x ∷ drop (suc i) d) e)

pub copied_more : (s d : List ℕ) (i : ℕ) → i < length s → i < length d
    → set (take i s ++ drop i d) i (get_or s i 0) ≡ take (i + 1) s ++ drop (i + 1) d
copied_more s d i hs hd =
    let l : length (take i s) ≡ i = length-take-le i s (omega arith) in
    rw (add-one, take-suc s i 0, append_snoc)
    (ap (λ (r : List ℕ). set (take i s ++ r) i (get_or s i 0)) (drop-cons d i 0 hd) ∙ set_at (take i s) (get_or d i 0) (drop (suc i) d) (get_or s i 0) i l)

-- x begins with T, and goes on as O does from n. Its part from n on is lent, and comes back with s at its front: now it begins with T ++ s
pub grown : (T s O x p : List ℕ) (n k : ℕ) → length T ≡ n → length s ≡ k → x ≡ T ++ drop n O
    → p ≡ s ++ drop k (mid_of n (length x - n) x)
    → put_mid n (length x - n) x p ≡ (T ++ s) ++ drop (n + k) O
grown T s O x p n k lT ls ex ep =
    let front : take n x ≡ T = ap (take n) ex ∙ take_at T (drop n O) n lT in
    let back : drop n x ≡ drop n O = ap (drop n) ex ∙ drop_at T (drop n O) n lT in
    let mid : mid_of n (length x - n) x ≡ drop n O = take_all (length x - n) (drop n x) (omega (arith, length-drop n x)) ∙ back in
    let post : drop (length x - n) (drop n x) ≡ [] = drop_of_length-le (drop n x) {i = length x - n} (omega (arith, length-drop n x)) in
    let part : p ≡ s ++ drop (n + k) O = ep ∙ ap (λ (l : List ℕ). s ++ drop k l) mid ∙ ap (λ (l : List ℕ). s ++ l) (drop-drop k n O) in
    rw (front, post, part, append-nil) (sym (append_assoc T s (drop (n + k) O)))

-- the last two of a list
pub last_two : (x : List ℕ) (u v : ℕ)
    → (get_or (x ++ u ∷ v ∷ []) (length (x ++ u ∷ v ∷ []) - 2) 0 ≡ u) × (get_or (x ++ u ∷ v ∷ []) (length (x ++ u ∷ v ∷ []) - 1) 0 ≡ v)
last_two x u v =
    let n : length (x ++ u ∷ v ∷ []) ≡ length x + 2 = length-append x (u ∷ v ∷ []) in
    let e₂ : length (x ++ u ∷ v ∷ []) - 2 ≡ length x + 0 = omega arith in
    let e₁ : length (x ++ u ∷ v ∷ []) - 1 ≡ length x + 1 = omega arith in
    (rw e₂ (get_or-append-add x (u ∷ v ∷ []) 0 0), rw e₁ (get_or-append-add x (u ∷ v ∷ []) 1 0))

pub tail_length : (a : ℕ) (xs : List ℕ) → length (mid_of a (length xs - a) xs) ≡ length xs - a
tail_length a xs = ap length (tail_of a xs) ∙ length-drop a xs
