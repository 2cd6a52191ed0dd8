-- What a level gives back of a frame, and the totals one by one.
use Rattle.std.proofs.Common.{◌≡◌, ℕ, zero, suc, ◌-◌, ◌*◌, ◌<◌, ◌≤◌, min, Bool, true, false, cond, ◌||◌, ltb, List, [], ◌∷◌, length, get_or, set, sym, refl, ap, ◌∙◌, ap₂, arith, ltb-false, le-ltb}
use Rattle.octets.proofs.BoolLaws.{or_false}
use Rattle.frame.specs.Fields.{is_voice, field_c}
use Rattle.onward.specs.Onward.{dropped}
use Rattle.totals.specs.Totals.{gives, levels, total, lowered, any_above}
use Rattle.totals.specs.Parts.{droppable}

-- by the blocks that may still be dropped
pub gives_is : (level : ℕ) (f : List ℕ) → gives level f ≡ 16 * min (droppable f) level
unfolding gives dropped
gives_is level f = go (is_voice f) where
  go : (v : Bool) → cond v (16 * min (field_c f) level) 0 ≡ 16 * min (cond v (field_c f) 0) level
  go true = refl
  go false = omega arith

pub gives_most : (level : ℕ) (f : List ℕ) → gives level f ≤ 48
gives_most level f = go (is_voice f) (gives_is level f) where
  go : (v : Bool) → gives level f ≡ 16 * min (cond v (field_c f) 0) level → gives level f ≤ 48
  go true e = omega arith
  go false e = omega arith

-- level 0 gives nothing
pub gives_none : (f : List ℕ) → gives 0 f ≡ 0
gives_none f = gives_is 0 f ∙ omega arith

-- three numbers, all set
pub all_set : (ts : List ℕ) (a b c : ℕ) → length ts ≡ 3 → set (set (set ts 0 a) 1 b) 2 c ≡ a ∷ b ∷ c ∷ []
all_set [] a b c h = absurd (omega arith)
all_set (x ∷ []) a b c h = absurd (omega arith)
all_set (x ∷ y ∷ []) a b c h = absurd (omega arith)
all_set (x ∷ y ∷ z ∷ []) a b c h = refl
all_set (x ∷ y ∷ z ∷ w ∷ ts) a b c h = absurd (omega arith)

-- and tested one by one
pub any_of_three : (n : ℕ) (ts : List ℕ) → length ts ≡ 3 → (ltb n (get_or ts 0 0) || ltb n (get_or ts 1 0) || ltb n (get_or ts 2 0)) ≡ any_above n ts
unfolding any_above
any_of_three n [] h = absurd (omega arith)
any_of_three n (x ∷ []) h = absurd (omega arith)
any_of_three n (x ∷ y ∷ []) h = absurd (omega arith)
any_of_three n (x ∷ y ∷ z ∷ []) h = go (ltb n x) (ltb n y) (ltb n z) where
  go : (a b c : Bool) → (a || b || c) ≡ (a || (b || (c || false)))
  go true b c = refl
  go false true c = refl
  go false false true = refl
  go false false false = refl
any_of_three n (x ∷ y ∷ z ∷ w ∷ ts) h = absurd (omega arith)

-- none is above n exactly where each is at most n
pub none_above : (n : ℕ) (xs : List ℕ) → any_above n xs ≡ false → (i : ℕ) → get_or xs i 0 ≤ n
unfolding any_above
none_above n [] h i = omega arith
none_above n (x ∷ xs) h zero = ltb-false _ _ (or_false (ltb n x) (any_above n xs) h).0
none_above n (x ∷ xs) h (suc i) = none_above n xs (or_false (ltb n x) (any_above n xs) h).1 i

pub above_none : (n : ℕ) (xs : List ℕ) → ((i : ℕ) → get_or xs i 0 ≤ n) → any_above n xs ≡ false
unfolding any_above
above_none n [] h = refl
above_none n (x ∷ xs) h = simp (le-ltb n x (h 0), above_none n xs (λ i. h (suc i)))

pub droppable_few : (f : List ℕ) → droppable f < 4
droppable_few f = go (is_voice f) where
  go : (v : Bool) → cond v (field_c f) 0 < 4
  go true = omega arith
  go false = omega arith

given : (level blocks x : ℕ) (f : List ℕ) → blocks ≡ droppable f → x ≡ 16 * min blocks level → x ≡ gives level f
given level blocks x f eb ex = ex ∙ ap (λ (k : ℕ). 16 * min k level) eb ∙ sym (gives_is level f)

-- a number for each level
pub each_level : (g h : ℕ → ℕ) → g 1 ≡ h 1 → g 2 ≡ h 2 → g 3 ≡ h 3 → levels g ≡ levels h
each_level g h one two three = ap₂ (λ (m n : ℕ). m ∷ n ∷ g 3 ∷ []) one two ∙ ap (λ (n : ℕ). h 1 ∷ h 2 ∷ n ∷ []) three

pub all_levels : (ts : List ℕ) → length ts ≡ 3 → levels (total ts) ≡ ts
all_levels [] h = absurd (omega arith)
all_levels (x ∷ []) h = absurd (omega arith)
all_levels (x ∷ y ∷ []) h = absurd (omega arith)
all_levels (x ∷ y ∷ z ∷ []) h = refl
all_levels (x ∷ y ∷ z ∷ w ∷ ts) h = absurd (omega arith)

-- where those before it are set, a total is still what it was
pub still : (ts : List ℕ) (a b : ℕ) → length ts ≡ 3 → (get_or (set ts 0 a) 1 0 ≡ total ts 2) × (get_or (set (set ts 0 a) 1 b) 2 0 ≡ total ts 3)
still [] a b h = absurd (omega arith)
still (x ∷ []) a b h = absurd (omega arith)
still (x ∷ y ∷ []) a b h = absurd (omega arith)
still (x ∷ y ∷ z ∷ []) a b h = (refl, refl)
still (x ∷ y ∷ z ∷ w ∷ ts) a b h = absurd (omega arith)

-- each total moved by what its level gives back, one after another
pub moved : (by : ℕ → ℕ → ℕ) (f ts : List ℕ) (blocks x y z a b c : ℕ) → length ts ≡ 3
    → x ≡ 16 * min blocks 1 → y ≡ 16 * min blocks 2 → z ≡ 16 * min blocks 3
    → a ≡ by (get_or ts 0 0) x → b ≡ by (get_or (set ts 0 a) 1 0) y → c ≡ by (get_or (set (set ts 0 a) 1 b) 2 0) z
    → blocks ≡ droppable f → set (set (set ts 0 a) 1 b) 2 c ≡ levels (λ level. by (total ts level) (gives level f))
moved by f ts blocks x y z a b c h ex ey ez ea eb ec e =
    let s = still ts a b h in
    all_set ts a b c h
    ∙ each_level (total (a ∷ b ∷ c ∷ [])) (λ level. by (total ts level) (gives level f))
    (ea ∙ ap (by (total ts 1)) (given 1 blocks x f e ex))
    (eb ∙ ap₂ by s.0 (given 2 blocks y f e ey)) (ec ∙ ap₂ by s.1 (given 3 blocks z f e ez))

-- a frame without blocks to drop lowers nothing
pub lowered_none : (f ts : List ℕ) → length ts ≡ 3 → droppable f ≡ 0 → lowered f ts ≡ ts
unfolding lowered
lowered_none f ts h e = each_level (λ level. total ts level - gives level f) (total ts) (same 1) (same 2) (same 3) ∙ all_levels ts h where
  same : (level : ℕ) → total ts level - gives level f ≡ total ts level
  same level = let n : gives level f ≡ 0 = gives_is level f ∙ ap (λ (k : ℕ). 16 * min k level) e ∙ omega arith in rw n (omega arith)

-- what holds of each level holds of each total
pub totals_at_most : (g h : ℕ → ℕ) → ((level : ℕ) → g level ≤ h level) → (level : ℕ) → total (levels g) level ≤ h level
totals_at_most g h le zero = omega arith
totals_at_most g h le (suc zero) = le 1
totals_at_most g h le (suc (suc zero)) = le 2
totals_at_most g h le (suc (suc (suc zero))) = le 3
totals_at_most g h le (suc (suc (suc (suc k)))) = omega arith

pub total_is : (g : ℕ → ℕ) → g 0 ≡ 0 → (level : ℕ) → level ≤ 3 → total (levels g) level ≡ g level
total_is g none zero le = sym none
total_is g none (suc zero) le = refl
total_is g none (suc (suc zero)) le = refl
total_is g none (suc (suc (suc zero))) le = refl
total_is g none (suc (suc (suc (suc k)))) le = absurd (omega arith)

pub none_overfull : (g : ℕ → ℕ) → ((level : ℕ) → g level ≤ 1536) → any_above 1536 (levels g) ≡ false
none_overfull g le = above_none 1536 (levels g) (λ i. totals_at_most g (λ _. 1536) le (suc i))

pub total_most : (n : ℕ) (ts : List ℕ) → any_above n ts ≡ false → (level : ℕ) → total ts level ≤ n
total_most n ts h zero = omega arith
total_most n ts h (suc level) = none_above n ts h level
