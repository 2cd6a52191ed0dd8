-- Laws of carrying bits from octets to octets: a look at some of them, and what they become put behind what is there.
use Prim.Native.Nat.{ℕ, ◌+◌, ◌-◌, ◌*◌, ◌/◌, ◌%◌, ◌^◌, ◌≤◌, ◌<◌, min}
use mathlib.Core.Path.{◌≡◌, refl, sym, ap, ◌∙◌}
use mathlib.Core.Bool.{Bool}
use mathlib.Core.List.{List, [], ◌++◌, append_assoc, append-nil}
use native.Mathlib.Nat.{add-zero, add_comm, lt_of_lt_of_le, min_comm, mod-lt}
use native.Mathlib.Omega.{arith}
use lib.Dec.{lit<}
use lib.Pow.{pow_mono, shl_exact, shr_lt}
use lib.ListN.{length, take, drop, length-append, length-drop, length-take, drop_of_length-le}
use lib.Seq.{slice, length-slice, take_at, drop_at, drop-drop, length-take-le}
use Rattle.bits.specs.Bits.{bits, lowest, value, octets_of}
use Rattle.bits.proofs.BitLaws.{length_bits, length_lowest, length_octets, bits_append, lowest_append, joined_lt, power_octets, poured}
use Rattle.bits.proofs.WindowLaws.{window_is, window_fits}
use Rattle.zeros.specs.Parts.{carried, Some, More}
use Rattle.zeros.proofs.CarryLaws.{carried_empty}

-- ---- a look

-- w is what n bits from i on are, at most 48 and none behind the end
module _ (s : List ℕ) (i end n w : ℕ) (en : n ≡ min (end - i) 48) (ew : w ≡ value (take n (drop i (bits s)))) where
  pub look_is : w ≡ value (take 48 (slice i end (bits s)))
  look_is = ew ∙ ap value (window_is s end 48 i n w (en ∙ min_comm (end - i) 48) ew)

  pub look_fits : w < 2 ^ 48
  look_fits = lt_of_lt_of_le (window_fits s end 48 i n w (en ∙ min_comm (end - i) 48) ew) (pow_mono {i = n} {j = 48} (omega arith))

-- what the bits from i to the end become
abbrev pub become : Bool → List ℕ → ℕ → ℕ → List Bool
become w s end i = carried w (slice i end (bits s))

-- what is left behind a piece
module _ (w : Bool) (s : List ℕ) (end i made n taken : ℕ) (inside : i < end) (room : end ≤ 8 * length s)
    (p : Some w (slice i end (bits s)) made n taken) where
  pub some_within : i + taken ≤ end + 1
  some_within = omega (arith, p.within, length-slice i end (bits s) (omega (arith, length_bits s)))

  pub some_is : become w s end i ≡ lowest n made ++ become w s end (i + taken)
  some_is = p.is ∙ rw (drop-drop taken i (take end (bits s)))

  pub some_length : length (become w s end i) ≡ n + length (become w s end (i + taken))
  some_length = ap length some_is ∙ length-append (lowest n made) (become w s end (i + taken)) ∙ rw (length_lowest n made)

-- nothing is left at the end
pub become_none : (w : Bool) (s : List ℕ) (end i : ℕ) → end ≤ i → become w s end i ≡ []
become_none w s end i h =
    ap (carried w) (drop_of_length-le (take end (bits s)) {i = i} (omega (arith, length-take end (bits s)))) ∙ carried_empty w

-- ---- bits put behind what is held

pub more_none : (out : List ℕ) (at held n : ℕ) → n < 8 → held < 2 ^ n → More out out at held n [] at held n
more_none out at held n h l =
    record { short = h; fits = l; far = sym (add-zero (8 * at + n)); is = sym (append-nil _); rest = refl; long = refl }

-- one after another
pub more_more : (f g h : List ℕ) (at held n at₂ held₂ n₂ at₃ held₃ n₃ : ℕ) (u v : List Bool)
    → More f g at held n u at₂ held₂ n₂ → More g h at₂ held₂ n₂ v at₃ held₃ n₃ → More f h at held n (u ++ v) at₃ held₃ n₃
more_more f g h at held n at₂ held₂ n₂ at₃ held₃ n₃ u v p q =
    let on : at₂ ≤ at₃ = omega (arith, q.far, q.short) in
    let e : at₂ + (at₃ - at₂) ≡ at₃ = omega arith in
    let behind : drop at₃ g ≡ drop at₃ f =
    ap (λ (k : ℕ). drop k g) (sym e) ∙ sym (drop-drop (at₃ - at₂) at₂ g) ∙ ap (drop (at₃ - at₂)) p.rest ∙ drop-drop (at₃ - at₂) at₂ f ∙ ap (λ (k : ℕ). drop k f) e in
    record {
      short = q.short;
      fits = q.fits;
      far = omega (arith, p.far, q.far, length-append u v);
      is = q.is ∙ ap (λ (l : List Bool). l ++ v) p.is ∙ append_assoc (bits (take at f) ++ lowest n held) u v;
      rest = q.rest ∙ behind;
      long = q.long ∙ p.long;
    }

-- the p bits of x behind the n that are held: whole octets are stored, and what is left is held
module _ (out : List ℕ) (at held n x p : ℕ) (few : n < 8) (fit : held < 2 ^ n) (fits : x < 2 ^ p) (short : p ≤ 57) (room : 8 * at + n + p ≤ 8 * length out) where
  abbrev word : ℕ
  word = held + x * 2 ^ n

  abbrev o : ℕ
  o = (n + p) / 8

  abbrev r : ℕ
  r = (n + p) % 8

  -- the numbers fit
  pub put_up : x * 2 ^ n % 18446744073709551616 ≡ x * 2 ^ n
  put_up = shl_exact {a = x} p n 64 fits (omega arith)

  pub put_fits : word < 2 ^ 64
  put_fits = lt_of_lt_of_le (joined_lt n p held x fit fits) (pow_mono {i = n + p} {j = 64} (omega arith))

  whole : 8 * o + r ≡ n + p
  whole = omega arith

  pub put_few : r < 8
  put_few = mod-lt (n + p) (lit< tt)

  pub put_fit : word / 256 ^ o < 2 ^ r
  put_fit = rw (power_octets o) (shr_lt r (8 * o) (rw (add_comm r (8 * o), whole) (joined_lt n p held x fit fits)))

  pub put_more : (after : List ℕ) → after ≡ take at out ++ octets_of o (lowest 64 word) ++ drop (at + o) out
      → More out after at held n (lowest p x) (at + o) (word / 256 ^ o) r
  put_more after e =
      let stored : List ℕ = octets_of o (lowest 64 word) in
      let front : List ℕ = take at out ++ stored in
      let inside : at + o ≤ length out = omega arith in
      let length_front : length front ≡ at + o =
      length-append (take at out) stored ∙ omega (arith, length-take-le at out (omega arith), length_octets o (lowest 64 word)) in
      record {
        short = put_few;
        fits = put_fit;
        far = omega (arith, length_lowest p x);
        is =
            ap (λ (l : List ℕ). bits l ++ lowest r (word / 256 ^ o)) (ap (take (at + o)) e ∙ take_at front (drop (at + o) out) (at + o) length_front)
            ∙ rw (
              bits_append (take at out) stored,
              append_assoc (bits (take at out)) (bits stored) (lowest r (word / 256 ^ o)),
              poured o r word (omega arith),
              whole,
              lowest_append n p held x fit,
            )
            (sym (append_assoc (bits (take at out)) (lowest n held) (lowest p x)));
        rest = ap (drop (at + o)) e ∙ drop_at front (drop (at + o) out) (at + o) length_front;
        long = ap length e ∙ length-append front (drop (at + o) out) ∙ omega (arith, length-drop (at + o) out);
      }

-- ---- of all that is to be put, what is left

pub record Poured (before out : List ℕ) (at held n : ℕ) (all left : List Bool) (to rest m : ℕ) : Type 0 where
  pub so : List Bool
  pub is : all ≡ so ++ left
  pub put : More before out at held n so to rest m

pub poured_none : (out : List ℕ) (at held n : ℕ) (all : List Bool) → n < 8 → held < 2 ^ n → Poured out out at held n all all at held n
poured_none out at held n all h l =
    record { so = []; is = refl; put = more_none out at held n h l }

pub poured_all : (before out : List ℕ) (at held n : ℕ) (all left : List Bool) (to rest m : ℕ) → Poured before out at held n all left to rest m → left ≡ []
    → More before out at held n all to rest m
poured_all before out at held n all left to rest m k e = rw (k.is, e, append-nil k.so) k.put

-- a piece of what is left has room, and behind it the rest is left
module _ (before out : List ℕ) (at held n : ℕ) (all left after piece : List Bool) (to rest m : ℕ) (k : Poured before out at held n all left to rest m)
    (e : left ≡ piece ++ after) where
  both : all ≡ (k.so ++ piece) ++ after
  both = k.is ∙ rw (e, append_assoc k.so piece after)

  pub poured_room : 8 * at + n + length all ≤ 8 * length before → 8 * to + m + length piece ≤ 8 * length out
  poured_room h = omega (arith, ap length both, length-append (k.so ++ piece) after, length-append k.so piece, k.put.far, k.put.long)

  pub poured_more : (now : List ℕ) (to₂ rest₂ m₂ : ℕ) → More out now to rest m piece to₂ rest₂ m₂ → Poured before now at held n all after to₂ rest₂ m₂
  poured_more now to₂ rest₂ m₂ more =
      record { so = k.so ++ piece; is = both; put = more_more before out now at held n to rest m to₂ rest₂ m₂ k.so piece k.put more }
