-- The remainder of the division is what the register holds, for a list of any length.
use Prim.Native.Nat.{ℕ, zero, suc, ◌+◌, ◌-◌, ◌*◌, ◌/◌, ◌%◌, ◌^◌, ◌<◌}
use mathlib.Core.Path.{◌≡◌, refl, sym, ap, ap₂, ◌∙◌}
use mathlib.Core.List.{List, [], ◌∷◌, ◌++◌, append_assoc}
use native.Mathlib.Nat.{suc-add, zero-add, pow-suc, div-div-eq-div-mul}
use native.Mathlib.Omega.{arith}
use lib.Arith.{lt-one}
use lib.Bits.{bit_xor, xor_comm}
use lib.ListN.{length, get_or, length-append, replicate}
use lib.Seq.{ext_get_or}
use Rattle.octets.specs.Octets.{tab}
use Rattle.octets.proofs.TabLaws.{length_tab, get_or_tab}
use Rattle.octets.proofs.XorLaws.{xor_half, xor_odd}
use Rattle.fcs.specs.Fcs.{generator, fcs_step, fcs_bits, fcs_run}
use Rattle.fcs.proofs.RunLaws.{step_below, bits_below}
use Rattle.plain_check.specs.Bits.{bit, octet_bits}
use Rattle.plain_check.specs.Check.{message_bits, added, complemented, dividend, generator_polynomial, reduced, line, lines, remainder}
use Rattle.plain_check.proofs.BitLaws.{Binary, binary_append, length_added}
use Rattle.plain_check.proofs.WalkLaws.{length_message}

-- the n low bits of a register, the lowest first
unfoldable pub low_bits : ℕ → ℕ → List ℕ
low_bits zero x = []
low_bits (suc n) x = x % 2 ∷ low_bits n (x / 2)

binary_low : (n x : ℕ) → Binary (low_bits n x)
unfolding low_bits
binary_low zero x = tt
binary_low (suc n) x = (omega arith, binary_low n (x / 2))

binary_kept : (a l : List ℕ) → Binary l → Binary (added a l)
unfolding added
binary_kept [] l p = p
binary_kept (x ∷ a) [] p = tt
binary_kept (x ∷ a) (y ∷ l) p = (omega arith, binary_kept a l p.1)

two_at_once : (a b x : ℕ) → (a + (b + x) % 2) % 2 ≡ ((a + b) % 2 + x) % 2
two_at_once a b x = omega arith

-- bits are added place by place, so that two additions are one
added_twice : (n a b : ℕ) (l : List ℕ) → added (low_bits n a) (added (low_bits n b) l) ≡ added (low_bits n (bit_xor a b)) l
unfolding added low_bits
added_twice zero a b l = refl
added_twice (suc n) a b [] = refl
added_twice (suc n) a b (x ∷ l) =
    ap₂ (λ (h : ℕ) (t : List ℕ). h ∷ t)
    (two_at_once (a % 2) (b % 2) x ∙ ap (λ (y : ℕ). (y + x) % 2) (omega (arith, xor_odd a b)))
    (added_twice n (a / 2) (b / 2) l ∙ ap (λ (y : ℕ). added (low_bits n y) l) (sym (xor_half a b)))

-- a zero above the highest bit adds nothing
added_more : (n a : ℕ) (l : List ℕ) → Binary l → a < 2 ^ n → added (low_bits (suc n) a) l ≡ added (low_bits n a) l
unfolding added low_bits
added_more zero a [] p h = refl
added_more zero a (x ∷ l) p h = let none : a ≡ 0 = lt-one h in ap (λ (y : ℕ). y ∷ l) (omega (arith, p.0))
added_more (suc n) a [] p h = refl
added_more (suc n) a (x ∷ l) p h = ap (λ (t : List ℕ). (a % 2 + x) % 2 ∷ t) (added_more n (a / 2) l p.1 (omega (arith, pow-suc 2 n)))

added_none : (n : ℕ) (l : List ℕ) → Binary l → added (low_bits n 0) l ≡ l
unfolding added low_bits
added_none zero l p = refl
added_none (suc n) [] p = refl
added_none (suc n) (x ∷ l) p = ap₂ (λ (h : ℕ) (t : List ℕ). h ∷ t) (omega (arith, p.0)) (added_none n l p.1)

-- one line: the generator is added where the leading bit is one
line_is : (lead : ℕ) (l : List ℕ) → lead < 2 → Binary l → line (lead ∷ l) ≡ added (low_bits 16 (generator * lead)) l
unfolding line reduced added low_bits generator_polynomial
line_is zero l h p = sym (added_none 16 l p)
line_is (suc zero) l h p = refl
line_is (suc (suc lead)) l h p = absurd (omega arith)

-- one line of the division is one step of the register, which stands added to what is still to be divided
pub line_step : (reg b : ℕ) (l : List ℕ) → reg < 65536 → Binary l → line (added (low_bits 16 reg) (b ∷ l)) ≡ added (low_bits 16 (fcs_step reg b)) l
unfolding added low_bits fcs_step
line_step reg b l hr p =
    let lead = (reg + b) % 2 in
    let rest = added (low_bits 15 (reg / 2)) l in
    let e : (reg % 2 + b) % 2 ≡ lead = omega arith in
    ap (λ (x : ℕ). line (x ∷ rest)) e
    ∙ line_is lead rest (omega arith) (binary_kept (low_bits 15 (reg / 2)) l p)
    ∙ ap (added (low_bits 16 (generator * lead))) (sym (added_more 15 (reg / 2) l p (omega arith)))
    ∙ added_twice 16 (generator * lead) (reg / 2) l
    ∙ ap (λ (x : ℕ). added (low_bits 16 x) l) (xor_comm (generator * lead) (reg / 2))

low_none : (x : ℕ) (l : List ℕ) → low_bits 0 x ++ l ≡ l
unfolding low_bits
low_none x l = refl

low_more : (n x : ℕ) (l : List ℕ) → low_bits (suc n) x ++ l ≡ x % 2 ∷ low_bits n (x / 2) ++ l
unfolding low_bits
low_more n x l = refl

lines_low : (n reg octet : ℕ) (l : List ℕ) → reg < 65536 → Binary l
    → lines n (added (low_bits 16 reg) (low_bits n octet ++ l)) ≡ added (low_bits 16 (fcs_bits n reg octet)) l
unfolding lines fcs_bits
lines_low zero reg octet l h p = ap (added (low_bits 16 reg)) (low_none octet l)
lines_low (suc n) reg octet l h p =
    ap (λ (t : List ℕ). lines n (line (added (low_bits 16 reg) t))) (low_more n octet l)
    ∙ ap (lines n) (line_step reg (octet % 2) (low_bits n (octet / 2) ++ l) h (binary_append (low_bits n (octet / 2)) l (binary_low n (octet / 2)) p))
    ∙ lines_low n (fcs_step reg (octet % 2)) (octet / 2) l (step_below reg (octet % 2) h) p

lines_add : (m n : ℕ) (l : List ℕ) → lines (m + n) l ≡ lines n (lines m l)
unfolding lines
lines_add zero n l = ap (λ (k : ℕ). lines k l) (zero-add n)
lines_add (suc m) n l = ap (λ (k : ℕ). lines k l) (suc-add m n) ∙ lines_add m n (line l)

low_length : (n x : ℕ) → length (low_bits n x) ≡ n
unfolding low_bits
low_length zero x = refl
low_length (suc n) x = ap suc (low_length n (x / 2))

low_at : (n x i : ℕ) → i < n → get_or (low_bits n x) i 0 ≡ x / 2 ^ i % 2
unfolding low_bits
low_at zero x i h = absurd (omega arith)
low_at (suc n) x zero h = omega arith
low_at (suc n) x (suc i) h =
    low_at n (x / 2) i (omega arith)
    ∙ ap (λ (y : ℕ). y % 2) (div-div-eq-div-mul x 2 (2 ^ i) ∙ ap (λ (y : ℕ). x / y) (omega (arith, pow-suc 2 i)))

octet_low : (x : ℕ) → octet_bits x ≡ low_bits 8 x
unfolding octet_bits
octet_low x =
    let f : ℕ → ℕ = λ i. bit (i + 1) x in
    ext_get_or 0 (tab f 8) (low_bits 8 x) (length_tab f 8 ∙ sym (low_length 8 x))
    (λ i h. get_or_tab f 8 i 0 (rw length_tab at h) ∙ ap (λ (k : ℕ). x / 2 ^ k % 2) (omega arith) ∙ sym (low_at 8 x i (rw length_tab at h)))

message_none : (l : List ℕ) → message_bits [] ++ l ≡ l
unfolding message_bits
message_none l = refl

message_more : (octet : ℕ) (octets l : List ℕ) → message_bits (octet ∷ octets) ++ l ≡ low_bits 8 octet ++ (message_bits octets ++ l)
unfolding message_bits
message_more octet octets l =
    append_assoc (octet_bits octet) (message_bits octets) l
    ∙ ap (λ (b : List ℕ). b ++ (message_bits octets ++ l)) (octet_low octet)

binary_message : (m : List ℕ) → Binary (message_bits m)
unfolding message_bits
binary_message [] = tt
binary_message (x ∷ m) = binary_append (octet_bits x) (message_bits m) (rw (octet_low x) (binary_low 8 x)) (binary_message m)

-- the invariant: after the lines of a message the register stands added to what is left
pub lines_message : (octets l : List ℕ) (reg : ℕ) → reg < 65536 → Binary l
    → lines (8 * length octets) (added (low_bits 16 reg) (message_bits octets ++ l)) ≡ added (low_bits 16 (fcs_run reg octets)) l
unfolding fcs_run lines
lines_message [] l reg h p = ap (added (low_bits 16 reg)) (message_none l)
lines_message (octet ∷ octets) l reg h p =
    ap₂ lines (eight (length octets)) (ap (added (low_bits 16 reg)) (message_more octet octets l))
    ∙ lines_add 8 (8 * length octets) (added (low_bits 16 reg) (low_bits 8 octet ++ (message_bits octets ++ l)))
    ∙ ap (lines (8 * length octets)) (lines_low 8 reg octet (message_bits octets ++ l) h (binary_append (message_bits octets) l (binary_message octets) p))
    ∙ lines_message octets l (fcs_bits 8 reg octet) (bits_below 8 reg octet h) p
  where
    eight : (n : ℕ) → 8 * suc n ≡ 8 + 8 * n
    eight n = omega arith

-- the two ends: the preset, and what sixteen zeros leave
ones_are : replicate 16 1 ≡ low_bits 16 65535
unfolding low_bits
ones_are = refl

zeros_leave : (n x : ℕ) → added (low_bits n x) (replicate n 0) ≡ low_bits n x
unfolding added low_bits
zeros_leave zero x = refl
zeros_leave (suc n) x = ap₂ (λ (h : ℕ) (t : List ℕ). h ∷ t) (omega arith) (zeros_leave n (x / 2))

binary_zeros : (n : ℕ) → Binary (replicate n 0)
binary_zeros zero = tt
binary_zeros (suc n) = (omega arith, binary_zeros n)

-- the remainder of the division is what the register holds
pub remainder_is : (message : List ℕ) → remainder (dividend message) ≡ low_bits 16 (fcs_run 65535 message)
unfolding remainder dividend complemented
remainder_is message =
    let all = message_bits message ++ replicate 16 0 in
    let long : length (added (replicate 16 1) all) - 16 ≡ 8 * length message =
    omega (arith, length_added (replicate 16 1) all, length-append (message_bits message) (replicate 16 0), length_message message) in
    ap₂ lines long (ap (λ (l : List ℕ). added l all) ones_are)
    ∙ lines_message message (replicate 16 0) 65535 (omega arith) (binary_zeros 16)
    ∙ zeros_leave 16 (fcs_run 65535 message)
