-- The numbers that a call stores, and the totals behind them, as a part that is lent.
use Prim.Native.Nat.{ℕ, ◌+◌, ◌-◌, ◌<◌}
use mathlib.Core.Path.{◌≡◌, ap, ap₂, ◌∙◌}
use mathlib.Core.List.{List, [], ◌∷◌, ◌++◌}
use native.Mathlib.Omega.{arith}
use lib.ListN.{length, take, drop, get_or, set, length-set}
use lib.Seq.{get_or-set_same, get_or-set_other, drop-set-add, drop-set-lt, take-set-le, take-set-lt}
use borrow.Rule.Slice.PartMut.{mid_of, put_mid, same_len_mid}
use Rattle.octets.proofs.PartLaws.{tail_of, tail_put}
use Rattle.card_queue.specs.Queues.{queue_of}
use Rattle.card_queue.proofs.QueueLaws.{first_67}

-- nothing behind the first 67 is touched
behind : (k : List ℕ) (i j l x y z : ℕ) → i < 67 → j < 67 → l < 67 → drop 67 (set (set (set k i x) j y) l z) ≡ drop 67 k
behind k i j l x y z hi hj hl = drop-set-lt 67 (set (set k i x) j y) l z hl ∙ drop-set-lt 67 (set k i x) j y hj ∙ drop-set-lt 67 k i x hi

-- the count and a slot stored
module _ (kept : List ℕ) (h : length kept ≡ 70) (x y z p : ℕ) (l : p < 32) where
  abbrev pub slotted_in : List ℕ
  slotted_in = set (set (set kept 2 x) (3 + p) y) (35 + p) z

  pub slot_size : length slotted_in ≡ 70
  slot_size = simp length-set h

  pub slot_first : take 67 slotted_in ≡ get_or kept 0 0 ∷ get_or kept 1 0 ∷ x ∷ (set (queue_of kept).lengths p y ++ set (queue_of kept).clocks p z)
  slot_first =
      let k₁ : List ℕ = set kept 2 x in
      let k₂ : List ℕ = set k₁ (3 + p) y in
      let k₃ : List ℕ = set k₂ (35 + p) z in
      let at-0 : get_or k₃ 0 0 ≡ get_or kept 0 0 =
      get_or-set_other k₂ (35 + p) 0 z 0 (λ e. omega arith) ∙ get_or-set_other k₁ (3 + p) 0 y 0 (λ e. omega arith) ∙ get_or-set_other kept 2 0 x 0 (λ e. omega arith) in
      let at_1 : get_or k₃ 1 0 ≡ get_or kept 1 0 =
      get_or-set_other k₂ (35 + p) 1 z 0 (λ e. omega arith) ∙ get_or-set_other k₁ (3 + p) 1 y 0 (λ e. omega arith) ∙ get_or-set_other kept 2 1 x 0 (λ e. omega arith) in
      let at-2 : get_or k₃ 2 0 ≡ x =
      get_or-set_other k₂ (35 + p) 2 z 0 (λ e. omega arith) ∙ get_or-set_other k₁ (3 + p) 2 y 0 (λ e. omega arith) ∙ get_or-set_same kept 2 x 0 (omega arith) in
      let d₂ : drop 3 k₂ ≡ set (drop 3 kept) p y = drop-set-add 3 k₁ p y ∙ ap (λ (r : List ℕ). set r p y) (drop-set-lt 3 kept 2 x (omega arith)) in
      let d₃ : drop 3 k₃ ≡ set (drop 3 k₂) (32 + p) z = ap (λ (i : ℕ). drop 3 (set k₂ i z)) (omega arith) ∙ drop-set-add 3 k₂ (32 + p) z in
      let ls : take 32 (drop 3 k₃) ≡ set (take 32 (drop 3 kept)) p y =
      ap (take 32) d₃ ∙ take-set-le 32 (drop 3 k₂) (32 + p) z (omega arith) ∙ ap (take 32) d₂ ∙ take-set-lt 32 (drop 3 kept) p y l in
      let cs : take 32 (drop 35 k₃) ≡ set (take 32 (drop 35 kept)) p z =
      ap (take 32) (drop-set-add 35 k₂ p z ∙ ap (λ (r : List ℕ). set r p z) (drop-set-lt 35 k₁ (3 + p) y (omega arith) ∙ drop-set-lt 35 kept 2 x (omega arith))) ∙ take-set-lt 32 (drop 35 kept) p z l in
      first_67 k₃ slot_size ∙ ap₂ (λ (a b : ℕ). a ∷ b ∷ get_or k₃ 2 0 ∷ (take 32 (drop 3 k₃) ++ take 32 (drop 35 k₃))) at-0 at_1
      ∙ ap (λ (c : ℕ). get_or kept 0 0 ∷ get_or kept 1 0 ∷ c ∷ (take 32 (drop 3 k₃) ++ take 32 (drop 35 k₃))) at-2
      ∙ ap₂ (λ (a b : List ℕ). get_or kept 0 0 ∷ get_or kept 1 0 ∷ x ∷ (a ++ b)) ls cs

  pub slot_behind : drop 67 slotted_in ≡ (queue_of kept).totals
  slot_behind = behind kept 2 (3 + p) (35 + p) x y z (omega arith) (omega arith) (omega arith)

-- the first place, the first slot and the count stored
module _ (kept : List ℕ) (h : length kept ≡ 70) (x y z : ℕ) where
  abbrev pub headed : List ℕ
  headed = set (set (set kept 0 x) 1 y) 2 z

  pub head_size : length headed ≡ 70
  head_size = simp length-set h

  pub head_first : take 67 headed ≡ x ∷ y ∷ z ∷ ((queue_of kept).lengths ++ (queue_of kept).clocks)
  head_first = go kept h where
    go : (k : List ℕ) → length k ≡ 70 → take 67 (set (set (set k 0 x) 1 y) 2 z) ≡ x ∷ y ∷ z ∷ ((queue_of k).lengths ++ (queue_of k).clocks)
    go [] e = absurd (omega arith)
    go (a ∷ []) e = absurd (omega arith)
    go (a ∷ b ∷ []) e = absurd (omega arith)
    go (a ∷ b ∷ c ∷ r) e = first_67 (x ∷ y ∷ z ∷ r) e

  pub head_behind : drop 67 headed ≡ (queue_of kept).totals
  head_behind = behind kept 0 1 2 x y z (omega arith) (omega arith) (omega arith)

-- the totals lent on, and put back
module _ (k : List ℕ) (h : length k ≡ 70) where
  pub lent_on : mid_of 67 (length k - 67) k ≡ drop 67 k
  lent_on = tail_of 67 k

  pub put_back : (us : List ℕ) → put_mid 67 (length k - 67) k us ≡ take 67 k ++ us
  put_back us = tail_put 67 k us (omega arith)
