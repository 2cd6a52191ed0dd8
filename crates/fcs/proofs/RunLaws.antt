-- The octets of a list one after another: the next, the last, two lists in a row, and that a register keeps its sixteen bits.
use Prim.Native.Nat.{ℕ, zero, suc, ◌+◌, ◌*◌, ◌/◌, ◌%◌, ◌<◌, ◌≤◌}
use mathlib.Core.Path.{◌≡◌, refl}
use mathlib.Core.List.{List, [], ◌∷◌, ◌++◌}
use native.Mathlib.Numerals.{add-one}
use native.Mathlib.Omega.{arith}
use lib.Bits.{xor_lt}
use lib.ListN.{length, get_or, drop, drop_of_length-le}
use lib.Seq.{drop-cons}
use Rattle.fcs.specs.Fcs.{generator, fcs_step, fcs_bits, fcs_run}

-- what a loop over the octets asks
pub run_next : (s : List ℕ) (i reg next : ℕ) → i < length s → next ≡ fcs_bits 8 reg (get_or s i 0) → fcs_run next (drop (i + 1) s) ≡ fcs_run reg (drop i s)
unfolding fcs_run
run_next s i reg next h e = rw (e, add-one, drop-cons s i 0)

pub run_end : (s : List ℕ) (i reg : ℕ) → length s ≤ i → fcs_run reg (drop i s) ≡ reg
unfolding fcs_run
run_end s i reg h = rw drop_of_length-le

-- a list in two parts
pub run_append : (reg : ℕ) (a b : List ℕ) → fcs_run reg (a ++ b) ≡ fcs_run (fcs_run reg a) b
unfolding fcs_run
run_append reg [] b = refl
run_append reg (x ∷ a) b = run_append (fcs_bits 8 reg x) a b

-- a register has sixteen bits
pub step_below : (reg bit : ℕ) → reg < 65536 → fcs_step reg bit < 65536
unfolding fcs_step
step_below reg bit h = xor_lt 16 (reg / 2) (generator * ((reg + bit) % 2)) (omega arith) (omega arith)

pub bits_below : (n reg octet : ℕ) → reg < 65536 → fcs_bits n reg octet < 65536
unfolding fcs_bits
bits_below zero reg octet h = h
bits_below (suc n) reg octet h = bits_below n (fcs_step reg (octet % 2)) (octet / 2) (step_below reg (octet % 2) h)

pub run_below : (reg : ℕ) (l : List ℕ) → reg < 65536 → fcs_run reg l < 65536
unfolding fcs_run
run_below reg [] h = h
run_below reg (x ∷ l) h = run_below (fcs_bits 8 reg x) l (bits_below 8 reg x h)
