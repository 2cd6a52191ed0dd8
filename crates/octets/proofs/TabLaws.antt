-- Laws of `tab`: its length and elements, the loop that writes it, and a table's rule by one list that antt computes.
use Prim.Native.Nat.{ℕ, zero, suc, ◌<◌}
use mathlib.Core.Path.{◌≡◌, refl, sym, ap, ◌∙◌}
use mathlib.Core.Logic.{⊎_elim}
use mathlib.Core.List.{List, [], ◌∷◌, ◌++◌, map}
use native.Mathlib.Nat.{le_of_suc-le-suc, not-suc-le-zero, eq-or-lt_of_le, le_refl}
use native.Mathlib.Omega.{arith}
use lib.ListN.{length, get_or, set, drop, length-append, get_or-append, length-map, get_or-map}
use lib.Seq.{drop-cons, set_at, append_snoc, get_or_at, ext_get_or}
use Rattle.octets.specs.Octets.{tab}

pub length_tab : {A : Type 0} (f : ℕ → A) (n : ℕ) → length (tab f n) ≡ n
unfolding tab
length_tab f zero = refl
length_tab f (suc n) = length-append (tab f n) (f n ∷ []) ∙ omega (arith, length_tab f n)

pub get_or_tab : {A : Type 0} (f : ℕ → A) (n i : ℕ) (d : A) → i < n → get_or (tab f n) i d ≡ f i
unfolding tab
get_or_tab f zero i d h = absurd (not-suc-le-zero h)
get_or_tab f (suc n) i d h =
    ⊎_elim
    (λ e. get_or_at (tab f n) (f n) [] d i (length_tab f n ∙ sym e) ∙ ap f (sym e))
    (λ l. get_or-append (tab f n) (f n ∷ []) d i (omega (arith, length_tab f n)) ∙ get_or_tab f n i d l)
    (eq-or-lt_of_le (le_of_suc-le-suc h))

pub tab_ext : (f g : ℕ → ℕ) (n : ℕ) → ((i : ℕ) → i < n → f i ≡ g i) → tab f n ≡ tab g n
unfolding tab
tab_ext f g zero h = refl
tab_ext f g (suc n) h = rw (tab_ext f g n (λ i l. h i (omega arith)), h n (le_refl (suc n)))

-- a table's rule: where the two lists are one, which antt computes, so are the two functions below n
pub agree : {A : Type 0} (f g : ℕ → A) (n : ℕ) → tab f n ≡ tab g n → (k : ℕ) → k < n → f k ≡ g k
agree f g n e k h = sym (get_or_tab f n k (f 0) h) ∙ ap (λ l. get_or l k (f 0)) e ∙ get_or_tab g n k (f 0) h

-- a turn of a loop that writes the next element
pub tab_more : (f : ℕ → ℕ) (l : List ℕ) (n : ℕ) → n < length l → set (tab f n ++ drop n l) n (f n) ≡ tab f (suc n) ++ drop (suc n) l
unfolding tab
tab_more f l n h =
    rw (drop-cons l n 0, set_at (tab f n) (get_or l n 0) (drop (suc n) l) (f n) n (length_tab f n))
    (sym (append_snoc (tab f n) (f n) (drop (suc n) l)))

-- a function of each element, by index or by `map`
pub tab_map : (f : ℕ → ℕ) (xs : List ℕ) (n : ℕ) → length xs ≡ n → tab (λ i. f (get_or xs i 0)) n ≡ map f xs
tab_map f xs n e =
    ext_get_or (f 0) (tab (λ i. f (get_or xs i 0)) n) (map f xs) (length_tab (λ i. f (get_or xs i 0)) n ∙ sym e ∙ sym (length-map xs f))
    (λ i l. get_or_tab (λ k. f (get_or xs k 0)) n i (f 0) (rw length_tab at l) ∙ sym (get_or-map f xs i 0))
