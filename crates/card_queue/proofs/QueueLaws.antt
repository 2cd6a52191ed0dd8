-- The 70 numbers of a queue: which fit, and where each stands.
use Prim.Native.Nat.{ℕ, zero, suc, ◌-◌, ◌≤◌, ◌<◌}
use mathlib.Core.Path.{◌≡◌, refl, sym, ap, ◌∙◌}
use mathlib.Core.Bool.{Bool, true, false, ◌||◌}
use mathlib.Core.List.{List, [], ◌∷◌, ◌++◌, append-nil}
use native.Mathlib.Omega.{arith}
use lib.Dec.{ltb}
use lib.ListN.{length, take, drop, get_or, length-drop, take-append-drop, drop_of_length-le, replicate}
use lib.Seq.{take-suc, take-add, take_all, length-take-le}
use Rattle.refusals.specs.Refusals.{◌or_else◌, refuse}
use Rattle.refusals.proofs.RefusalLaws.{or_else_zero, refuse_zero}
use Rattle.ring.specs.Parts.{Slots}
use Rattle.totals.specs.Totals.{any_above}
use Rattle.totals.proofs.TotalsLaws.{none_above}
use Rattle.room.specs.Rules.{freed_answer}
use Rattle.room.specs.Parts.{bare, unclocked, outlined, numbered}
use Rattle.room.specs.declared.Queue.{Queue}
use Rattle.room.specs.declared.numbers.Numbers.{Numbers}
use Rattle.room.proofs.FreedLaws.{freed_bare}
use Rattle.queue.specs.Calls.{fresh_queue}
use Rattle.card.specs.Card.{put}
use Rattle.card.proofs.CardLaws.{sized}
use Rattle.card_queue.specs.Queues.{queue_of, queue_numbers, size_refusal, kept_refusal}

or_assoc : (b c d e : Bool) → c ≡ (d || e) → (b || c) ≡ ((b || d) || e)
or_assoc true c d e h = refl
or_assoc false c d e h = h

any_append : (xs ys : List ℕ) → any_above 255 (xs ++ ys) ≡ (any_above 255 xs || any_above 255 ys)
unfolding any_above
any_append [] ys = refl
any_append (x ∷ xs) ys = or_assoc (ltb 255 x) _ (any_above 255 xs) (any_above 255 ys) (any_append xs ys)

or_none : (b : Bool) → (b || false) ≡ b
or_none true = refl
or_none false = refl

-- one number more
pub above_more : (xs : List ℕ) (i : ℕ) → i < length xs → (any_above 255 (take i xs) || ltb 255 (get_or xs i 0)) ≡ any_above 255 (take (suc i) xs)
unfolding any_above
above_more xs i h =
    rw (take-suc xs i 0 h, any_append (take i xs) (get_or xs i 0 ∷ []), or_none (ltb 255 (get_or xs i 0))) refl

none_after : (n : ℕ) → n or_else 0 ≡ n
none_after zero = refl
none_after (suc n) = refl

-- the first 67 numbers one by one
pub first_67 : (kept : List ℕ) → length kept ≡ 70 → take 67 kept ≡ get_or kept 0 0 ∷ get_or kept 1 0 ∷ get_or kept 2 0 ∷ ((queue_of kept).lengths ++ (queue_of kept).clocks)
first_67 [] h = absurd (omega arith)
first_67 (a ∷ []) h = absurd (omega arith)
first_67 (a ∷ b ∷ []) h = absurd (omega arith)
first_67 (a ∷ b ∷ c ∷ r) h = ap (λ (x : List ℕ). a ∷ b ∷ c ∷ x) (take-add 32 32 r)

-- and all 70: no number of the slice is lost in the record
pub kept_is : (kept : List ℕ) → length kept ≡ 70 → kept ≡ queue_numbers (queue_of kept)
kept_is kept h = sym (take-append-drop 67 kept) ∙ ap (λ (x : List ℕ). x ++ drop 67 kept) (first_67 kept h)

-- put over as many, they are all there is
pub all_put : (values kept : List ℕ) → length kept ≤ length values → put values kept ≡ values
unfolding put
all_put values kept h = ap (λ (x : List ℕ). values ++ x) (drop_of_length-le kept {i = length values} h) ∙ append-nil values

module _ (kept : List ℕ) (h : length kept ≡ 70) where
  pub lengths_32 : length (queue_of kept).lengths ≡ 32
  lengths_32 = length-take-le 32 (drop 3 kept) (omega (arith, length-drop 3 kept))

  pub clocks_32 : length (queue_of kept).clocks ≡ 32
  clocks_32 = length-take-le 32 (drop 35 kept) (omega (arith, length-drop 35 kept))

  pub totals_3 : length (queue_of kept).totals ≡ 3
  totals_3 = length-drop 67 kept ∙ omega arith

  -- the totals as a part that is lent
  pub totals_lent : take (length kept - 67) (drop 67 kept) ≡ (queue_of kept).totals
  totals_lent = take_all (length kept - 67) (drop 67 kept) (omega (arith, length-drop 67 kept))

  -- by its parts
  pub numbered_kept : bare (get_or kept 0 0) (get_or kept 1 0) (get_or kept 2 0) (queue_of kept).lengths (take (length kept - 67) (drop 67 kept)) ≡ unclocked (queue_of kept)
  numbered_kept = ap (bare (get_or kept 0 0) (get_or kept 1 0) (get_or kept 2 0) (queue_of kept).lengths) totals_lent

-- a queue of numbers that fit
pub fits : (kept : List ℕ) → kept_refusal kept ≡ 0 → (length kept ≡ 70) × Slots (queue_of kept).lengths
unfolding kept_refusal
fits kept z =
    let p = or_else_zero _ _ z in
    let h : length kept ≡ 70 = sized 70 (length kept) refl p.0 in
    (h, record { all = lengths_32 kept h; octets = λ i. omega (arith, none_above 255 (queue_of kept).lengths (refuse_zero _ 13 p.1) i) })

-- judged in two steps: how many there are, and then the lengths
pub judged_fit : (kept : List ℕ) (wide : Bool) → 0 ≡ size_refusal (length kept) → wide ≡ any_above 255 (queue_of kept).lengths → 0 ≡ refuse wide 14 → 0 ≡ kept_refusal kept
unfolding kept_refusal
judged_fit kept wide e ew d =
    d ∙ ap (λ (b : Bool). refuse b 14) ew ∙ ap (λ (k : ℕ). k or_else refuse (any_above 255 (queue_of kept).lengths) 14) e

-- all 70 cleared
pub all_cleared : (k x : List ℕ) → length k ≡ 70 → x ≡ replicate (length k) 0 → x ≡ put (queue_numbers fresh_queue) k
all_cleared k x h e = e ∙ ap (λ (n : ℕ). replicate n 0) h ∙ sym (all_put (queue_numbers fresh_queue) k (omega arith))

-- a question goes by the record alone
pub freed_so : (kept : List ℕ) (level : ℕ) (w : Numbers) → numbered w ≡ unclocked (queue_of kept) → freed_answer (outlined w.outline) level ≡ freed_answer (queue_of kept) level
freed_so kept level w e =
    let slots : Slots (queue_of kept).lengths = rw (← ap (λ (p : Queue). p.lengths) e) w.slots in
    ap (λ (p : Queue). freed_answer (bare p.head p.first p.count [] p.totals) level) e ∙ freed_bare (queue_of kept) level slots
