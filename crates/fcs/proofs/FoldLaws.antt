-- Many bits at once: feeding zero bits keeps xor, so that a fold is right where it is right on single bits, which antt tests.
use Prim.Native.Nat.{ℕ, zero, suc, ◌+◌, ◌*◌, ◌/◌, ◌%◌, ◌^◌, ◌<◌}
use mathlib.Core.Path.{◌≡◌, refl, sym, ap, ap₂, ◌∙◌}
use mathlib.Core.List.{List, [], ◌∷◌}
use native.Mathlib.Nat.{mod-lt, le_refl, one-mul, zero-mul, zero-add, add-zero}
use native.Mathlib.Numerals.{one-add}
use native.Mathlib.Omega.{arith}
use lib.Bits.{bit_xor, xor_shifted, xor_shr, xor_mod, xor_block, xor_comm}
use lib.Pow.{split, pow_pos, shr_lt}
use lib.ListN.{length, get_or, take, drop, take-append-drop}
use lib.Seq.{take_all}
use Rattle.octets.specs.Octets.{tab}
use Rattle.octets.proofs.TabLaws.{agree}
use Rattle.octets.proofs.XorLaws.{xor_odd, xor_assoc}
use Rattle.bits.specs.Bits.{bits, value}
use Rattle.bits.proofs.BitLaws.{value_octet}
use Rattle.fcs.specs.Fcs.{generator, fcs_step, fcs_bits, fcs_run}
use Rattle.fcs.proofs.ShiftLaws.{added, moved, entry_of, by_table}
use Rattle.fcs.proofs.RunLaws.{run_append}
use Rattle.fcs.proofs.ChangeLaws.{joined}

-- ---- functions that keep xor

abbrev pub Linear : (ℕ → ℕ) → Type 0
Linear f = (a b : ℕ) → f (bit_xor a b) ≡ bit_xor (f a) (f b)

pub comp : (f g : ℕ → ℕ) → Linear f → Linear g → Linear (λ x. f (g x))
comp f g hf hg a b = ap f (hg a b) ∙ hf (g a) (g b)

pub sum : (f g : ℕ → ℕ) → Linear f → Linear g → Linear (λ x. bit_xor (f x) (g x))
sum f g hf hg a b =
    ap₂ bit_xor (hf a b) (hg a b) ∙ xor_assoc (f a) (f b) (bit_xor (g a) (g b))
    ∙ ap (bit_xor (f a)) (sym (xor_assoc (f b) (g a) (g b)) ∙ ap (λ (z : ℕ). bit_xor z (g b)) (xor_comm (f b) (g a)) ∙ xor_assoc (g a) (f b) (g b))
    ∙ sym (xor_assoc (f a) (g a) (bit_xor (f b) (g b)))

pub id : Linear (λ x. x)
id a b = refl

pub shr : (k : ℕ) → Linear (λ x. x / 2 ^ k)
shr k a b = xor_shr a b k

pub low : (k : ℕ) → Linear (λ x. x % 2 ^ k)
low k a b = xor_mod a b k

shl : (k : ℕ) → Linear (λ x. x * 2 ^ k)
shl k a b =
    sym (ap₂ bit_xor (sym (add-zero (a * 2 ^ k))) (sym (add-zero (b * 2 ^ k))) ∙ xor_block k a b 0 0 (pow_pos k) (pow_pos k) ∙ add-zero (bit_xor a b * 2 ^ k))

-- as a register of n bits moves up by k
pub up : (n k : ℕ) → Linear (λ x. x * 2 ^ k % 2 ^ n)
up n k = comp (λ x. x % 2 ^ n) (λ x. x * 2 ^ k) (low n) (shl k)

top : (f g : ℕ → ℕ) → Linear f → Linear g → (n h l : ℕ) → h < 2 → l < 2 ^ n → f (2 ^ n) ≡ g (2 ^ n) → f l ≡ g l → f (h * 2 ^ n + l) ≡ g (h * 2 ^ n + l)
top f g hf hg n zero l hh hl et el = rw (zero-mul, zero-add) el
top f g hf hg n (suc zero) l hh hl et el =
    let e : 1 * 2 ^ n + l ≡ bit_xor (2 ^ n) l = sym (xor_shifted 1 n l hl) ∙ ap (λ (z : ℕ). bit_xor z l) (one-mul (2 ^ n)) in
    ap f e ∙ hf (2 ^ n) l ∙ ap₂ bit_xor et el ∙ sym (hg (2 ^ n) l) ∙ ap g (sym e)
top f g hf hg n (suc (suc h)) l hh hl et el = absurd (omega arith)

-- two of them that agree at 0 and at the single bits below 2 ^ n agree below 2 ^ n
pub same : (f g : ℕ → ℕ) → Linear f → Linear g → f 0 ≡ g 0 → (n : ℕ) → ((i : ℕ) → i < n → f (2 ^ i) ≡ g (2 ^ i)) → (x : ℕ) → x < 2 ^ n → f x ≡ g x
same f g hf hg z zero h x l = let e : x ≡ 0 = omega arith in rw e z
same f g hf hg z (suc n) h x l =
    let s = split x n in
    rw (← s)
    (top f g hf hg n (x / 2 ^ n) (x % 2 ^ n) (shr_lt 1 n (rw (one-add n) l)) (mod-lt x (pow_pos n)) (h n (le_refl (suc n)))
    (same f g hf hg z n (λ i q. h i (omega arith)) (x % 2 ^ n) (mod-lt x (pow_pos n))))

-- ---- zero bits

times : (x y : ℕ) → x < 2 → y < 2 → generator * ((x + y) % 2) ≡ bit_xor (generator * x) (generator * y)
times zero zero p q = refl
times zero (suc zero) p q = refl
times (suc zero) zero p q = refl
times (suc zero) (suc zero) p q = refl
times zero (suc (suc y)) p q = absurd (omega arith)
times (suc zero) (suc (suc y)) p q = absurd (omega arith)
times (suc (suc x)) y p q = absurd (omega arith)

taken : Linear (λ x. generator * ((x + 0) % 2))
taken a b =
    let e : (bit_xor a b + 0) % 2 ≡ ((a + 0) % 2 + (b + 0) % 2) % 2 = omega (arith, xor_odd a b) in
    ap (λ (z : ℕ). generator * z) e ∙ times ((a + 0) % 2) ((b + 0) % 2) (omega arith) (omega arith)

step_linear : Linear (λ x. fcs_step x 0)
unfolding fcs_step
step_linear = sum (λ x. x / 2) (λ x. generator * ((x + 0) % 2)) (shr 1) taken

pub zeros_linear : (n : ℕ) → Linear (λ x. fcs_bits n x 0)
unfolding fcs_bits
zeros_linear zero = id
zeros_linear (suc n) = comp (λ x. fcs_bits n x 0) (λ x. fcs_step x 0) (zeros_linear n) step_linear

-- ---- the octet

-- no table: an entry as three shifts of one number
unfoldable pub shifts : ℕ → ℕ
shifts k = let x = bit_xor k (k * 16) % 256 in bit_xor (bit_xor (x * 256) (x * 8)) (x / 16)

shifts_linear : Linear shifts
unfolding shifts
shifts_linear =
    let x : ℕ → ℕ = λ k. bit_xor k (k * 2 ^ 4) % 2 ^ 8 in
    let hx : Linear x = comp (λ z. z % 2 ^ 8) (λ k. bit_xor k (k * 2 ^ 4)) (low 8) (sum (λ k. k) (λ k. k * 2 ^ 4) id (shl 4)) in
    sum (λ k. bit_xor (x k * 2 ^ 8) (x k * 2 ^ 3)) (λ k. x k / 2 ^ 4)
    (sum (λ k. x k * 2 ^ 8) (λ k. x k * 2 ^ 3) (comp (λ z. z * 2 ^ 8) x (shl 8) hx) (comp (λ z. z * 2 ^ 3) x (shl 3) hx))
    (comp (λ z. z / 2 ^ 4) x (shr 4) hx)

entries : (k : ℕ) → k < 256 → shifts k ≡ entry_of k
unfolding tab shifts entry_of fcs_bits fcs_step
entries k h =
    same shifts (λ x. fcs_bits 8 x 0) shifts_linear (zeros_linear 8) refl 8 (agree (λ i. shifts (2 ^ i)) (λ i. fcs_bits 8 (2 ^ i) 0) 8 refl) k h

pub by_shifts : (reg octet : ℕ) → octet < 256 → bit_xor (reg / 256) (shifts (bit_xor reg octet % 256)) ≡ fcs_bits 8 reg octet
by_shifts reg octet h = ap (bit_xor (reg / 256)) (entries (bit_xor reg octet % 256) (omega arith)) ∙ sym (by_table reg octet h)

-- ---- the folds

unfoldable pub fold : ℕ → ℕ → ℕ → ℕ → ℕ → ℕ → ℕ → ℕ
fold n a b c d e x =
    let t = bit_xor x (x * 2 ^ a % 2 ^ n) in
    let q = bit_xor (bit_xor t (t * 2 ^ b % 2 ^ n)) (x * 2 ^ c % 2 ^ n) in
    bit_xor (bit_xor q (q / 2 ^ d)) (q / 2 ^ e)

fold_linear : (n a b c d e : ℕ) → Linear (fold n a b c d e)
unfolding fold
fold_linear n a b c d e =
    let t : ℕ → ℕ = λ x. bit_xor x (x * 2 ^ a % 2 ^ n) in
    let ht : Linear t = sum (λ x. x) (λ x. x * 2 ^ a % 2 ^ n) id (up n a) in
    let q : ℕ → ℕ = λ x. bit_xor (bit_xor (t x) (t x * 2 ^ b % 2 ^ n)) (x * 2 ^ c % 2 ^ n) in
    let hq : Linear q = sum (λ x. bit_xor (t x) (t x * 2 ^ b % 2 ^ n)) (λ x. x * 2 ^ c % 2 ^ n)
    (sum t (λ x. t x * 2 ^ b % 2 ^ n) ht (comp (λ x. x * 2 ^ b % 2 ^ n) t (up n b) ht)) (up n c) in
    sum (λ x. bit_xor (q x) (q x / 2 ^ d)) (λ x. q x / 2 ^ e)
    (sum q (λ x. q x / 2 ^ d) hq (comp (λ x. x / 2 ^ d) q (shr d) hq)) (comp (λ x. x / 2 ^ e) q (shr e) hq)

abbrev pub fold16 : ℕ → ℕ
fold16 = fold 16 4 8 11 5 12

pub by_fold16 : (x : ℕ) → x < 65536 → fold16 x ≡ fcs_bits 16 x 0
unfolding fold fcs_bits fcs_step tab
by_fold16 x h =
    same fold16 (λ x. fcs_bits 16 x 0) (fold_linear 16 4 8 11 5 12) (zeros_linear 16) refl 16
    (agree (λ i. fold16 (2 ^ i)) (λ i. fcs_bits 16 (2 ^ i) 0) 16 refl) x h

-- sixteen zero bits, fed to a register of any size: what is above the sixteen low ones only moves down
unfoldable zeros16 : ℕ → ℕ
zeros16 x = bit_xor (x / 65536) (fold16 (x % 65536))

by_zeros16 : (x : ℕ) → fcs_bits 16 x 0 ≡ zeros16 x
unfolding zeros16
by_zeros16 x =
    let low = x % 65536 in
    let whole : bit_xor (x / 65536 * 65536) low ≡ x = xor_shifted (x / 65536) 16 low (mod-lt x (pow_pos 16)) ∙ split x 16 in
    ap (λ (z : ℕ). fcs_bits 16 z 0) (sym whole) ∙ moved 16 (x / 65536) low ∙ ap (bit_xor (x / 65536)) (sym (by_fold16 low (mod-lt x (pow_pos 16))))

sixteen_more : (n x : ℕ) → fcs_bits (16 + n) x 0 ≡ fcs_bits n (zeros16 x) 0
sixteen_more n x = joined 16 n x 0 0 (pow_pos 16) ∙ ap (λ (z : ℕ). fcs_bits n z 0) (by_zeros16 x)

abbrev zeros32 : ℕ → ℕ
zeros32 x = zeros16 (zeros16 x)

by_zeros32 : (x : ℕ) → fcs_bits 32 x 0 ≡ zeros32 x
by_zeros32 x = sixteen_more 16 x ∙ by_zeros16 (zeros16 x)

abbrev zeros64 : ℕ → ℕ
zeros64 x = zeros32 (zeros32 x)

by_zeros64 : (x : ℕ) → fcs_bits 64 x 0 ≡ zeros64 x
by_zeros64 x = sixteen_more 48 x ∙ sixteen_more 32 (zeros16 x) ∙ by_zeros32 (zeros32 x)

-- of n bits, one that n zero bits bring to where as many again bring the first: tested with a quicker way to feed the zero bits
pub by_fold : (n a b c d e : ℕ) (zeros : ℕ → ℕ) → ((x : ℕ) → fcs_bits n x 0 ≡ zeros x)
    → tab (λ i. zeros (fold n a b c d e (2 ^ i))) n ≡ tab (λ i. zeros (zeros (2 ^ i))) n → zeros (fold n a b c d e 0) ≡ zeros (zeros 0)
    → (x : ℕ) → x < 2 ^ n → fcs_bits n (fold n a b c d e x) 0 ≡ fcs_bits n (fcs_bits n x 0) 0
by_fold n a b c d e zeros is bits none x h =
    let linear : Linear zeros = λ p q. sym (is (bit_xor p q)) ∙ zeros_linear n p q ∙ ap₂ bit_xor (is p) (is q) in
    is (fold n a b c d e x)
    ∙ same (λ x. zeros (fold n a b c d e x)) (λ x. zeros (zeros x))
    (comp zeros (fold n a b c d e) linear (fold_linear n a b c d e)) (comp zeros zeros linear linear) none n
    (agree (λ i. zeros (fold n a b c d e (2 ^ i))) (λ i. zeros (zeros (2 ^ i))) n bits) x h
    ∙ sym (ap (λ (z : ℕ). fcs_bits n z 0) (is x) ∙ is (zeros x))

pub by_fold32 : (x : ℕ) → x < 4294967296 → fcs_bits 32 (fold 32 8 16 22 10 24 x) 0 ≡ fcs_bits 32 (fcs_bits 32 x 0) 0
unfolding fold zeros16 tab
by_fold32 x h = by_fold 32 8 16 22 10 24 zeros32 by_zeros32 refl refl x h

pub by_fold64 : (x : ℕ) → x < 18446744073709551616 → fcs_bits 64 (fold 64 16 32 44 20 48 x) 0 ≡ fcs_bits 64 (fcs_bits 64 x 0) 0
unfolding fold zeros16 tab
by_fold64 x h = by_fold 64 16 32 44 20 48 zeros64 by_zeros64 refl refl x h

-- a register of twice n bits: the high half only moves down while n zero bits are fed, and f stands for what they make of the low one
pub twice : (n x f : ℕ) {r : ℕ} → fcs_bits n f 0 ≡ fcs_bits n (fcs_bits n (x % 2 ^ n) 0) 0 → r ≡ fcs_bits n (bit_xor (x / 2 ^ n) f) 0 → r ≡ fcs_bits (n + n) x 0
twice n x f {r} p q =
    let high = x / 2 ^ n in
    let low = x % 2 ^ n in
    let none : 0 * 2 ^ n + 0 ≡ 0 = ap (λ (z : ℕ). z + 0) (zero-mul (2 ^ n)) in
    q ∙ zeros_linear n high f ∙ ap (bit_xor (fcs_bits n high 0)) p ∙ sym (zeros_linear n high (fcs_bits n low 0))
    ∙ ap (λ (z : ℕ). fcs_bits n z 0)
    (sym (moved n high low) ∙ ap (λ (z : ℕ). fcs_bits n z 0) (xor_shifted high n low (mod-lt x (pow_pos n)) ∙ split x n))
    ∙ sym (joined n n x 0 0 (pow_pos n)) ∙ ap (fcs_bits (n + n) x) none

-- ---- octets as one number

-- fed at once and one by one
fed : (f : List ℕ) → ((i : ℕ) → get_or f i 0 < 256) → (reg : ℕ) → fcs_bits (8 * length f) reg (value (bits f)) ≡ fcs_run reg f
unfolding fcs_bits fcs_run
fed [] o reg = refl
fed (x ∷ f) o reg =
    let e : 8 * suc (length f) ≡ 8 + 8 * length f = omega arith in
    let v : value (bits (x ∷ f)) ≡ value (bits f) * 2 ^ 8 + x = value_octet x f (o 0) ∙ omega arith in
    ap₂ (λ (n w : ℕ). fcs_bits n reg w) e v ∙ joined 8 (8 * length f) reg x (value (bits f)) (o 0) ∙ fed f (λ i. o (suc i)) (fcs_bits 8 reg x)

-- what octets make of any register, as a number whose 64 bits are fed to it
abbrev pub Fed : List ℕ → ℕ → Type 0
Fed f w = (reg : ℕ) → fcs_bits 64 reg w ≡ fcs_run reg f

pub fed_eight : (f : List ℕ) (w : ℕ) → length f ≡ 8 → ((k : ℕ) → get_or f k 0 < 256) → w ≡ value (bits (take 8 f)) → Fed f w
fed_eight f w n o e reg =
    let whole : take 8 f ≡ f = take_all 8 f (omega arith) in
    ap (fcs_bits 64 reg) (e ∙ ap (λ (l : List ℕ). value (bits l)) whole) ∙ ap (λ (m : ℕ). fcs_bits (8 * m) reg (value (bits f))) (sym n) ∙ fed f o reg

-- the first eight: added to the preset
pub first_eight : (f : List ℕ) (w : ℕ) → w < 18446744073709551616 → Fed f w → fcs_bits 64 (bit_xor w 65535) 0 ≡ fcs_run 65535 f
first_eight f w h e = ap (λ (z : ℕ). fcs_bits 64 z 0) (xor_comm w 65535) ∙ sym (added 64 65535 w h) ∙ e 65535

-- the next eight: the register is folded, and they are added
pub next_eight : (f : List ℕ) (x z w : ℕ) → w < 18446744073709551616 → fcs_bits 64 z 0 ≡ fcs_bits 64 (fcs_bits 64 x 0) 0 → Fed f w
    → fcs_bits 64 (bit_xor z w) 0 ≡ fcs_run (fcs_bits 64 x 0) f
next_eight f x z w h ez ew =
    zeros_linear 64 z w ∙ ap (λ (r : ℕ). bit_xor r (fcs_bits 64 w 0)) ez ∙ sym (zeros_linear 64 (fcs_bits 64 x 0) w)
    ∙ sym (added 64 (fcs_bits 64 x 0) w h) ∙ ew (fcs_bits 64 x 0)

-- so eight octets less are left
pub run_eight : (s f left : List ℕ) (reg next : ℕ) → f ≡ take 8 s → left ≡ drop 8 s → next ≡ fcs_run reg f → fcs_run next left ≡ fcs_run reg s
run_eight s f left reg next ef el e = rw (e, ef, el) (sym (run_append reg (take 8 s) (drop 8 s)) ∙ ap (fcs_run reg) (take-append-drop 8 s))
