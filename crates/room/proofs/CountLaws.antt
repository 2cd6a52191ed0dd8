-- The totals and what waits after a call: what holds of both before it, and of both with the frame come or gone, holds after it.
use Prim.Native.Nat.{ℕ, zero, suc, ◌≤◌}
use mathlib.Core.Path.{◌≡◌, refl, sym, subst, ap, ◌∙◌}
use mathlib.Core.List.{List, [], ◌∷◌, ◌++◌}
use native.Mathlib.Nat.{le_refl}
use lib.ListN.{length, drop}
use Rattle.refusals.specs.Refusals.{if_taken}
use Rattle.totals.specs.Totals.{levels, total, raised, lowered}
use Rattle.totals.proofs.TotalsLaws.{totals_at_most}
use Rattle.room.specs.Plain.{Kept, kept, first_of, gives_all}
use Rattle.room.specs.Waiting.{waiting, Counted, Covered}
use Rattle.room.specs.Rules.{enter_refusal, with_frame, enter_queue, enter_store, take_sent, without_first, take_queue}
use Rattle.room.specs.declared.Queue.{Queue}
use Rattle.room.proofs.GivesLaws.{sums_behind, sums_left, covered_behind, covered_left}
use Rattle.room.proofs.EnterLaws.{enter_waits}
use Rattle.room.proofs.TakeLaws.{take_waits}

-- full sums are at most themselves
pub counted_covered : (s : List ℕ) (q : Queue) → Counted s q → Covered s q
counted_covered s q e =
    let sums : ℕ → ℕ = λ level. gives_all level (waiting s q) in
    subst (λ (ts : List ℕ). (level : ℕ) → total ts level ≤ sums level) (sym e) (totals_at_most sums sums (λ level. le_refl (sums level)))

totals_of : (r : ℕ) (p q : Queue) → (if_taken r p q).totals ≡ if_taken r p.totals q.totals
totals_of zero p q = refl
totals_of (suc r) p q = refl

module _ (P : List ℕ → List Kept → Type 0) where
  after : (r : ℕ) {ts us vs : List ℕ} {w x y : List Kept} → vs ≡ if_taken r us ts → y ≡ if_taken r x w → P ts w → P us x → P vs y
  after zero ev ey before done = rw (ev, ey) done
  after (suc r) ev ey before done = rw (ev, ey) before

  module _ (s : List ℕ) (q : Queue) (ll : length q.lengths ≡ 32) (lc : length q.clocks ≡ 32) (before : P q.totals (waiting s q)) where
    enter_keeps : (f : List ℕ) (clock : ℕ) → P (raised f q.totals) (waiting s q ++ kept f clock ∷ [])
        → P (enter_queue s q f clock).totals (waiting (enter_store s q f) (enter_queue s q f clock))
    unfolding enter_queue with_frame
    enter_keeps f clock done = after (enter_refusal s q f) (totals_of (enter_refusal s q f) (with_frame q f clock) q) (enter_waits s q f ll lc clock) before done

    take_keeps : (to level addr : ℕ) (out : List ℕ) → P (lowered (first_of (waiting s q)).octets q.totals) (drop 1 (waiting s q))
        → P (take_queue s q to level addr out).totals (waiting s (take_queue s q to level addr out))
    unfolding take_queue without_first
    take_keeps to level addr out done =
        let r : ℕ = (take_sent s q to level addr out).refusal in
        after r (totals_of r (without_first s q) q) (take_waits s q ll lc to level addr out) before done

-- that each total is the full sum, and that none is above it
abbrev SumsOf : List ℕ → List Kept → Type 0
SumsOf ts w = ts ≡ levels (λ level. gives_all level w)

abbrev WithinSums : List ℕ → List Kept → Type 0
WithinSums ts w = (level : ℕ) → total ts level ≤ gives_all level w

module _ (s : List ℕ) (q : Queue) (ll : length q.lengths ≡ 32) (lc : length q.clocks ≡ 32) where
  pub enter_counted : (f : List ℕ) (clock : ℕ) → Counted s q → Counted (enter_store s q f) (enter_queue s q f clock)
  enter_counted f clock e = enter_keeps SumsOf s q ll lc e f clock (ap (raised f) e ∙ sums_behind (waiting s q) f clock)

  pub enter_covered : (f : List ℕ) (clock : ℕ) → Covered s q → Covered (enter_store s q f) (enter_queue s q f clock)
  enter_covered f clock e = enter_keeps WithinSums s q ll lc e f clock (covered_behind q.totals (waiting s q) e f clock)

  pub take_counted : (to level addr : ℕ) (out : List ℕ) → Counted s q → Counted s (take_queue s q to level addr out)
  take_counted to level addr out e = take_keeps SumsOf s q ll lc e to level addr out (ap (lowered (first_of (waiting s q)).octets) e ∙ sums_left (waiting s q))

  pub take_covered : (to level addr : ℕ) (out : List ℕ) → Covered s q → Covered s (take_queue s q to level addr out)
  take_covered to level addr out e = take_keeps WithinSums s q ll lc e to level addr out (covered_left q.totals (waiting s q) e)
