-- The two copies of `put` and of `get`, as the code makes them.
use Prim.Native.Nat.{ℕ, ◌+◌, ◌-◌, ◌≤◌, ◌<◌, min}
use mathlib.Core.Path.{◌≡◌, sym, ap, ◌∙◌}
use mathlib.Core.List.{List, ◌++◌}
use native.Mathlib.Omega.{arith}
use lib.ListN.{length, take, drop, length-append, length-take, length-drop, take-append-drop}
use lib.Seq.{length-take-le}
use borrow.Rule.Slice.PartMut.{mid_of, put_mid}
use Rattle.octets.proofs.PartLaws.{grown}
use Rattle.ring.specs.Ring.{turned, laid}
use Rattle.ring.proofs.RingLaws.{laid_is, placed, gathered}

-- a copy puts as many octets as it is given
exact : (x o q : List ℕ) (k : ℕ) → length x ≡ k → q ≡ x ++ drop (length x) o → q ≡ x ++ drop k o
exact x o q k e h = h ∙ ap (λ (i : ℕ). x ++ drop i o) e

pub put_placed : (a k : ℕ) (s f front back p z : List ℕ) → a ≤ length s → length f ≤ length s → k ≡ min (length f) (length s - a)
    → front ≡ take k f → back ≡ drop k f
    → p ≡ front ++ drop (length front) (mid_of a (length s - a) s) → z ≡ back ++ drop (length back) (put_mid a (length s - a) s p) → z ≡ laid a f s
put_placed a k s f front back p z la lf ek ef eb ep ez =
    let y : List ℕ = put_mid a (length s - a) s p in
    let lk : length front ≡ k = ap length ef ∙ length-take-le k f (omega arith) in
    let lb : length back ≡ length f - k = ap length eb ∙ length-drop k f in
    let ey : y ≡ take a s ++ take k f ++ drop (a + k) s =
    grown (take a s) front s s p a k (length-take-le a s la) lk (sym (take-append-drop a s)) (exact front (mid_of a (length s - a) s) p k lk ep)
    ∙ ap (λ (x : List ℕ). take a s ++ x ++ drop (a + k) s) ef in
    let ez' : z ≡ drop k f ++ drop (length f - k) y = exact back y z (length f - k) lb ez ∙ ap (λ (x : List ℕ). x ++ drop (length f - k) y) eb in
    let ly : length y ≡ length s = ap length ey ∙ simp (length-append, length-take, length-drop) (omega arith) in
    let lz : length z ≡ length s = ap length ez' ∙ length-append (drop k f) (drop (length f - k) y) ∙ omega (arith, length-drop k f, length-drop (length f - k) y) in
    laid_is a f s z la lz (placed a k s f y z la lf ek ey ez')

pub get_gathered : (a k n : ℕ) (s z x p : List ℕ) → a ≤ length s → n ≤ length s → n < 256 → length z ≡ 255 → k ≡ min n (length s - a)
    → x ≡ take (a + k - a) (drop a s) ++ drop (length (take (a + k - a) (drop a s))) z
    → p ≡ take (n - k) s ++ drop (length (take (n - k) s)) (mid_of k (255 - k) x)
    → (take n (put_mid k (255 - k) x p) ≡ take n (turned a s)) × (length (put_mid k (255 - k) x p) ≡ 255)
get_gathered a k n s z x p la ln small lz ek ex ep =
    let d : a + k - a ≡ k = omega arith in
    let lk : length (take k (drop a s)) ≡ k = length-take-le k (drop a s) (omega (arith, length-drop a s)) in
    let ex' : x ≡ take k (drop a s) ++ drop k z =
    exact (take k (drop a s)) z x k lk (ex ∙ ap (λ (i : ℕ). take i (drop a s) ++ drop (length (take i (drop a s))) z) d) in
    let lx : length x ≡ 255 = ap length ex' ∙ omega (arith, length-append (take k (drop a s)) (drop k z), length-drop k z) in
    let lr : length (take (n - k) s) ≡ n - k = length-take-le (n - k) s (omega arith) in
    let ep' : p ≡ take (n - k) s ++ drop (n - k) (mid_of k (length x - k) x) =
    exact (take (n - k) s) (mid_of k (length x - k) x) p (n - k) lr (ep ∙ ap (λ (i : ℕ). take (n - k) s ++ drop (length (take (n - k) s)) (mid_of k (i - k) x)) (sym lx)) in
    let ey : put_mid k (255 - k) x p ≡ take k x ++ take (n - k) s ++ drop (k + (n - k)) x =
    ap (λ (i : ℕ). put_mid k (i - k) x p) (sym lx)
    ∙ grown (take k x) (take (n - k) s) x x p k (n - k) (length-take-le k x (omega arith)) lr (sym (take-append-drop k x)) ep' in (
      gathered a k n s z x (put_mid k (255 - k) x p) la ln ek ex' (omega arith) ey,
      ap length ey ∙ omega (arith, length-append (take k x ++ take (n - k) s) (drop (k + (n - k)) x), length-append (take k x) (take (n - k) s), length-drop (k + (n - k)) x, length-take-le k x (omega arith)),
    )
