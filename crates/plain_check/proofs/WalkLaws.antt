-- The division as it is walked in an array: bits laid out by their places, a polynomial added place by place, line after line.
use Prim.Native.Nat.{ℕ, zero, suc, ◌+◌, ◌-◌, ◌*◌, ◌/◌, ◌%◌, ◌^◌, ◌<◌, ◌≤◌}
use mathlib.Core.Path.{◌≡◌, refl, sym, ap, ap₂, ◌∙◌}
use mathlib.Core.List.{List, [], ◌∷◌, ◌++◌}
use native.Mathlib.Nat.{zero-div, not-suc-le-zero}
use native.Mathlib.Omega.{arith}
use lib.ListN.{length, get_or, take, drop, set, replicate, length-append}
use lib.Seq.{ext_get_or, length-take-le, drop-append-add, drop_at}
use borrow.Author.Tests.{eq-eqb, ne_eqb}
use borrow.Rule.Slice.PartMut.{mid_of, put_mid}
use Rattle.octets.specs.Octets.{tab}
use Rattle.octets.proofs.PartLaws.{tail_of, tail_put}
use Rattle.octets.proofs.TabLaws.{length_tab, get_or_tab}
use Rattle.plain_check.specs.Bits.{bit, octet_bits, number}
use Rattle.plain_check.specs.Check.{message_bits, added, complemented, generator_polynomial, reduced, line, lines, remainder, dividend, check_sequence, check_octets}

-- bit i of a message, from 0; zero past its end
abbrev pub message_bit : List ℕ → ℕ → ℕ
message_bit m i = bit (i % 8 + 1) (get_or m (i / 8) 0)

pub length_message : (m : List ℕ) → length (message_bits m) ≡ 8 * length m
unfolding message_bits octet_bits
length_message [] = refl
length_message (x ∷ m) = length-append (octet_bits x) (message_bits m) ∙ omega (arith, length_tab (λ i. bit (i + 1) x) 8, length_message m)

message_at : (m : List ℕ) (i : ℕ) → get_or (message_bits m) i 0 ≡ message_bit m i
unfolding message_bits octet_bits tab
message_at [] i = sym (ap (λ (x : ℕ). x % 2) (zero-div (2 ^ (i % 8 + 1 - 1))))
message_at (x ∷ m) zero = omega arith
message_at (x ∷ m) (suc zero) = omega arith
message_at (x ∷ m) (suc (suc zero)) = omega arith
message_at (x ∷ m) (suc (suc (suc zero))) = omega arith
message_at (x ∷ m) (suc (suc (suc (suc zero)))) = omega arith
message_at (x ∷ m) (suc (suc (suc (suc (suc zero))))) = omega arith
message_at (x ∷ m) (suc (suc (suc (suc (suc (suc zero)))))) = omega arith
message_at (x ∷ m) (suc (suc (suc (suc (suc (suc (suc zero))))))) = omega arith
message_at (x ∷ m) (suc (suc (suc (suc (suc (suc (suc (suc i)))))))) = message_at m i ∙ sym (next x m i)
  where
    next : (x : ℕ) (m : List ℕ) (i : ℕ) → message_bit (x ∷ m) (suc (suc (suc (suc (suc (suc (suc (suc i)))))))) ≡ message_bit m i
    next x m i =
        let d : suc (suc (suc (suc (suc (suc (suc (suc i))))))) / 8 ≡ suc (i / 8) = omega arith in
        let r : suc (suc (suc (suc (suc (suc (suc (suc i))))))) % 8 ≡ i % 8 = omega arith in
        ap₂ (λ (j k : ℕ). bit (k + 1) (get_or (x ∷ m) j 0)) d r

zeros_at : (n i : ℕ) → ◌≡◌ {A = ℕ} (get_or (replicate n 0) i 0) 0
zeros_at zero i = refl
zeros_at (suc n) zero = refl
zeros_at (suc n) (suc i) = zeros_at n i

padded_at : (l : List ℕ) (n i : ℕ) → get_or (l ++ replicate n 0) i 0 ≡ get_or l i 0
padded_at [] n i = zeros_at n i
padded_at (x ∷ l) n zero = refl
padded_at (x ∷ l) n (suc i) = padded_at l n i

-- the message and the sixteen zeros, place by place
pub laid : (m : List ℕ) → tab (message_bit m) (8 * length m + 16) ≡ message_bits m ++ replicate 16 0
laid m =
    let n = 8 * length m + 16 in
    ext_get_or 0 (tab (message_bit m) n) (message_bits m ++ replicate 16 0)
    (length_tab (message_bit m) n ∙ sym (length-append (message_bits m) (replicate 16 0) ∙ ap (λ (x : ℕ). x + 16) (length_message m)))
    (λ i h. get_or_tab (message_bit m) n i 0 (rw length_tab at h) ∙ sym (padded_at (message_bits m) 16 i ∙ message_at m i))

-- one more place added
pub added_next : (w l : List ℕ) (i : ℕ) → i < length w → i < length l
    → set (added (take i w) l) i ((get_or w i 0 + get_or (added (take i w) l) i 0) % 2) ≡ added (take (suc i) w) l
unfolding added
added_next [] l i h k = absurd (not-suc-le-zero h)
added_next (x ∷ w) [] i h k = absurd (not-suc-le-zero k)
added_next (x ∷ w) (y ∷ l) zero h k = refl
added_next (x ∷ w) (y ∷ l) (suc i) h k = ap (λ (t : List ℕ). (x + y) % 2 ∷ t) (added_next w l i (omega arith) (omega arith))

pub added_none : (l : List ℕ) → added [] l ≡ l
unfolding added
added_none l = refl

-- the two ways of a line
pub reduced_one : (l p : List ℕ) → get_or l 0 0 ≡ 1 → p ≡ added generator_polynomial l → p ≡ reduced l
unfolding reduced
reduced_one l p h e = rw (eq-eqb (get_or l 0 0) 1 h) e

pub reduced_else : (l : List ℕ) → (get_or l 0 0 ≡ 1 → ⊥) → l ≡ reduced l
unfolding reduced
reduced_else l h = rw (ne_eqb (get_or l 0 0) 1 h) refl

-- one line: the list from the leading bit on is reduced, and the next line begins one place on
pub line_next : (l p : List ℕ) (n at : ℕ) → at < n → at ≤ length l → p ≡ reduced (drop at l)
    → lines (n - (at + 1)) (drop (at + 1) (take at l ++ p)) ≡ lines (n - at) (drop at l)
unfolding lines line
line_next l p n at h k e =
    let m : n - at ≡ suc (n - (at + 1)) = omega arith in
    let d : drop (at + 1) (take at l ++ p) ≡ drop 1 p =
    ap (λ (i : ℕ). drop (i + 1) (take at l ++ p)) (sym (length-take-le at l k)) ∙ drop-append-add (take at l) p 1 in
    rw (m, d, e)

pub lines_none : (l : List ℕ) → lines 0 l ≡ l
unfolding lines
lines_none l = refl

-- a part put at the end is what stands there
pub last_put : (b t : List ℕ) (n : ℕ) → n ≤ length b → let x = put_mid n (length b - n) b t in mid_of n (length x - n) x ≡ t
last_put b t n h =
    let x = put_mid n (length b - n) b t in
    tail_of n x ∙ ap (drop n) (tail_put n b t h) ∙ drop_at (take n b) t n (length-take-le n b h)

-- what is left at the end, complemented
pub worked_is : (m b₂ b₃ t : List ℕ) (n : ℕ) → b₂ ≡ complemented (message_bits m ++ replicate 16 0) → drop (length b₂ - 16) b₃ ≡ remainder b₂
    → n ≡ length b₂ - 16 → t ≡ complemented (mid_of n (length b₃ - n) b₃) → t ≡ check_sequence m
unfolding check_sequence dividend
worked_is m b₂ b₃ t n e₂ e₃ en et = et ∙ ap complemented (tail_of n b₃ ∙ ap (λ (k : ℕ). drop k b₃) en ∙ e₃ ∙ ap remainder e₂)

pub octets_are : (m s r : List ℕ) → s ≡ check_sequence m → r ≡ number (take 8 s) ∷ number (drop 8 s) ∷ [] → r ≡ check_octets m
unfolding check_octets
octets_are m s r e p = p ∙ ap (λ (t : List ℕ). number (take 8 t) ∷ number (drop 8 t) ∷ []) e
