-- Laws of a line: zeros put in and left out, where a stretch ends, and one reading between two flags.
use Prim.Native.Nat.{ℕ, zero, suc, ◌+◌, ◌*◌, ◌/◌, ◌%◌, ◌≤◌, ◌<◌}
use mathlib.Core.Path.{◌≡◌, refl, ap}
use mathlib.Core.Bool.{Bool, true, false}
use mathlib.Core.List.{List, [], ◌∷◌, ◌++◌}
use mathlib.Core.Option.{none, some}
use native.Mathlib.Nat.{le_of_suc-le-suc, not-suc-le-zero, le_refl}
use native.Mathlib.Omega.{arith}
use lib.ListN.{length, get_or}
use lib.Seq.{take-append_seam, drop-append_seam, drop-append-add}
use Rattle.refusals.specs.Refusals.{refusal1}
use Rattle.bits.specs.Bits.{bits}
use Rattle.bits.proofs.BitLaws.{length_bits, octets_of_bits}
use Rattle.bits.specs.Places.{begins, until}
use Rattle.zeros.specs.Zeros.{stuff, unstuff}
use Rattle.zeros.specs.Parts.{Calm}
use Rattle.line.specs.Line.{flag, flag_here, seven_ones, opens, ends, next, begin, reading, closed, between_refusal}

-- ---- a zero after five ones

pub unstuff_stuff : (n : ℕ) (bs : List Bool) → unstuff (suc n) (stuff n bs) ≡ bs
unfolding stuff unstuff
unstuff_stuff n [] = refl
unstuff_stuff n (false ∷ bs) = ap (λ (l : List Bool). false ∷ l) (unstuff_stuff 4 bs)
unstuff_stuff zero (true ∷ bs) = ap (λ (l : List Bool). true ∷ l) (unstuff_stuff 4 bs)
unstuff_stuff (suc n) (true ∷ bs) = ap (λ (l : List Bool). true ∷ l) (unstuff_stuff n bs)

pub stuff_long : (n : ℕ) (bs : List Bool) → length bs ≤ length (stuff n bs)
unfolding stuff
stuff_long n [] = le_refl 0
stuff_long n (false ∷ bs) = omega (arith, stuff_long 4 bs)
stuff_long zero (true ∷ bs) = omega (arith, stuff_long 4 bs)
stuff_long (suc n) (true ∷ bs) = omega (arith, stuff_long n bs)

pub stuff_calm : (n : ℕ) (bs : List Bool) → Calm (suc n) (stuff n bs)
unfolding stuff
stuff_calm n [] = tt
stuff_calm n (false ∷ bs) = stuff_calm 4 bs
stuff_calm zero (true ∷ bs) = stuff_calm 4 bs
stuff_calm (suc n) (true ∷ bs) = stuff_calm n bs

-- more than m ones, and then q
abbrev ones : ℕ → List Bool → List Bool
ones zero q = true ∷ q
ones (suc m) q = true ∷ ones m q

no_run : (n m : ℕ) (c q t : List Bool) → Calm n c → n ≤ m → begins (ones m q) (c ++ false ∷ t) ≡ false
unfolding begins
no_run n zero [] q t h l = refl
no_run n (suc m) [] q t h l = refl
no_run n zero (false ∷ c) q t h l = refl
no_run n (suc m) (false ∷ c) q t h l = refl
no_run zero zero (true ∷ c) q t h l = absurd h
no_run zero (suc m) (true ∷ c) q t h l = absurd h
no_run (suc n) zero (true ∷ c) q t h l = absurd (not-suc-le-zero l)
no_run (suc n) (suc m) (true ∷ c) q t h l = no_run n m c q t h (le_of_suc-le-suc l)

-- no flag begins on a zero before what is calm
zero_no_flag : (c t : List Bool) → Calm 5 c → flag_here (false ∷ (c ++ false ∷ t)) ≡ false
unfolding begins
zero_no_flag c t h = no_run 5 5 c (false ∷ []) t h (le_refl 5)

no_flag : (n : ℕ) (b : Bool) (c t : List Bool) → Calm n (b ∷ c) → flag_here (b ∷ (c ++ false ∷ t)) ≡ false
unfolding begins
no_flag n false c t h = zero_no_flag c t h
no_flag n true c t h = refl

no_seven : (n : ℕ) (b : Bool) (c t : List Bool) → Calm n (b ∷ c) → n ≤ 5 → seven_ones (b ∷ (c ++ false ∷ t)) ≡ false
unfolding begins
no_seven n false c t h l = refl
no_seven zero true c t h l = absurd h
no_seven (suc n) true c t h l = no_run n 5 c [] t h (omega arith)

no_end : (n : ℕ) (b : Bool) (c t : List Bool) → Calm n (b ∷ c) → n ≤ 5 → ends (b ∷ (c ++ false ∷ t)) ≡ false
no_end n b c t h l = rw (no_flag n b c t h, no_seven n b c t h l)

-- what is calm ends at the flag that follows it
until_calm : (n : ℕ) (c t : List Bool) → Calm n c → n ≤ 5 → until ends (c ++ (flag ++ t)) ≡ length c
unfolding until begins
until_calm n [] t h l = refl
until_calm n (false ∷ c) t h l = rw (no_end n false c _ h l) (ap suc (until_calm 5 c t h (le_refl 5)))
until_calm zero (true ∷ c) t h l = absurd h
until_calm (suc n) (true ∷ c) t h l = rw (no_end (suc n) true c _ h l) (ap suc (until_calm n c t h (omega arith)))

-- ---- where a test first holds

pub until_here : (test : List Bool → Bool) (bs : List Bool) → test bs ≡ true → until test bs ≡ 0
unfolding until
until_here test [] h = refl
until_here test (b ∷ bs) h = rw h

-- a flag before something calm opens
opens_here : (c t : List Bool) → Calm 5 c → 0 < length c → opens (flag ++ (c ++ (flag ++ t))) ≡ true
unfolding begins
opens_here [] t h l = absurd (not-suc-le-zero l)
opens_here (b ∷ c) t h l = rw (zero_no_flag (b ∷ c) _ h, no_flag 5 b c _ h)

-- ---- one reading

pub reading_calm : (p : ℕ) (c t : List Bool) → Calm 5 c → reading p (c ++ (flag ++ t)) ≡ some (closed (p + length c) (flag ++ t) c)
unfolding reading begins
reading_calm p c t h = rw (until_calm 5 c t h (le_refl 5), drop-append_seam c (flag ++ t), take-append_seam c (flag ++ t))

-- the bits between two flags, the first at p
pub next_calm : (a c t : List Bool) → Calm 5 c → 0 < length c
    → next (a ++ (flag ++ (c ++ (flag ++ t)))) (length a) ≡ some (closed (length a + 8 + length c) (flag ++ t) c)
unfolding next begin
next_calm a c t h l =
    let e : until opens (flag ++ (c ++ (flag ++ t))) ≡ 0 = until_here opens _ (opens_here c t h l) in
    let z : length a + 0 + 8 ≡ length a + 8 = omega arith in
    rw (drop-append_seam a (flag ++ (c ++ (flag ++ t))), e, z, drop-append-add a (flag ++ (c ++ (flag ++ t))) 8) (reading_calm (length a + 8) c t h)

-- a frame that is closed by a flag reads as itself
pub closed_frame : (p : ℕ) (t : List Bool) (f : List ℕ) → refusal1 (length f) ≡ 0 → ((i : ℕ) → get_or f i 0 < 256)
    → closed p (flag ++ t) (stuff 4 (bits f)) ≡ record { refusal = 0; frame = f; place = p }
unfolding closed between_refusal begins
closed_frame p t f h o =
    let m : 8 * length f % 8 ≡ 0 = omega arith in
    let d : 8 * length f / 8 ≡ length f = omega arith in
    rw (unstuff_stuff 4 (bits f), length_bits f, m, d, h, octets_of_bits f o)

-- behind the last flag there is no frame
pub next_end : (a : List Bool) → next (a ++ flag) (length a) ≡ none
unfolding next begin reading until begins
next_end a =
    let z : length a + 0 + 8 ≡ length a + 8 = omega arith in
    rw (drop-append_seam a flag, z, drop-append-add a flag 8)
