-- Laws of the stream: the rest of a buffer moved to its front, the line that a step puts, and the step as the input's next.
use Prim.Native.Nat.{ℕ, ◌+◌, ◌-◌, ◌≤◌, ◌<◌}
use mathlib.Core.Path.{◌≡◌, refl, sym, ap, ◌∙◌}
use mathlib.Core.Bool.{Bool, true, false, ◌&&◌, ◌||◌, not}
use mathlib.Core.List.{List, [], ◌++◌, append_assoc, append-nil}
use native.Mathlib.Omega.{arith}
use lib.Dec.{leb, ltb}
use lib.ListN.{length, take, drop, length-append, length-drop, drop_of_length-le}
use lib.Seq.{sets-eq, length-sets, length-take-le, take_at, take-append-le, take-take, take-add, drop_at, drop-append-le, drop-drop}
use borrow.Rule.Slice.PartMut.{put_mid}
use Rattle.std.specs.Option.{unwrap_or}
use Rattle.std.specs.Result.{IfOk, result_unwrap_or}
use Rattle.std.specs.Counts.{IsPrefixLen}
use Rattle.std.specs.Prelude.{is_some, Some, Result, Ok, Err}
use borrow.Author.Tests.{leb-true, ltb-true, ltb-false, not-false}
use Rattle.octets.proofs.PartLaws.{tail_put}
use Rattle.octets.proofs.BoolLaws.{and_true, or_false}
use Rattle.walking.specs.Text.{Put}
use Rattle.walking.specs.Walk.{Carried, step, Prints, ended, stopped, gone_on}
use Rattle.walking.specs.Held.{carried_of, Stepping}
use Rattle.walking.specs.Stream.{whole, ready, PrintsOn}
use Rattle.walking.specs.declared.Stepped.{Stepped}
use Rattle.walking.proofs.WalkLaws.{step_front, taken_within, taken_some}

-- what a read put into the part of a buffer that it was lent; a read that fails put nothing
pub read_within : {E : Type 0} (r : Result ℕ E) (part : List ℕ) → IfOk r (λ n. IsPrefixLen n part) → result_unwrap_or r 0 ≤ length part
read_within (Ok n) part h = omega (arith, h)
read_within (Err e) part h = omega arith

-- what was moved to the front stays there when the rest of the buffer is read into
pub filled_front : (old m p : List ℕ) (from to more : ℕ) → from ≤ to → to ≤ length old → m ≡ take (to - from) (drop from old) ++ drop (to - from) old
    → take (to - from) (take (to - from + more - 0) (drop 0 (put_mid (to - from) (length m - (to - from)) m p))) ≡ take (to - from) (drop from old)
filled_front old m p from to more h k e =
    let n : length (drop from old) ≡ length old - from = length-drop from old in
    let l : length (take (to - from) (drop from old)) ≡ to - from = length-take-le (to - from) (drop from old) (omega arith) in
    let f : take (to - from) m ≡ take (to - from) (drop from old) =
    ap (take (to - from)) e ∙ take_at (take (to - from) (drop from old)) (drop (to - from) old) (to - from) l in
    let r : to - from ≤ length m = omega (arith, ap length e, length-append (take (to - from) (drop from old)) (drop (to - from) old)) in
    take-take (to - from) (to - from + more - 0) _ (omega arith)
    ∙ ap (take (to - from)) (tail_put (to - from) m p r ∙ ap (λ (x : List ℕ). x ++ p) f)
    ∙ take_at (take (to - from) (drop from old)) p (to - from) l

-- what the buffer holds up to the end of a text that was put
module _ {text : List ℕ} {room at end : ℕ} {l m : List ℕ} (p : Put text room at end l m) (h : end ≤ length l) where
  put_all : m ≡ take at l ++ text ++ drop (at + length text) l
  put_all = p.holds ∙ sets-eq text l at (omega arith)

  pub put_taken : take end m ≡ take at l ++ text
  put_taken =
      ap (take end) put_all
      ∙ take_at (take at l ++ text) (drop (at + length text) l) end (length-append (take at l) text ∙ omega (arith, length-take-le at l (omega arith)))

  pub put_before : (k : ℕ) → k ≤ at → take k m ≡ take k l
  put_before k e =
      let n = length-take-le at l (omega arith) in
      ap (take k) put_all ∙ ap (take k) (append_assoc (take at l) text (drop (at + length text) l))
      ∙ take-append-le k (take at l) (text ++ drop (at + length text) l) (omega arith) ∙ take-take k at l e

module _ (r more : List ℕ) (ended : Bool) (w : whole (length r) ended ≡ true) (z : ended ≡ true → more ≡ []) where
  -- the step that is made of what is in the buffer is the step of all that is left
  pub step_here : (s : Carried) → step s (r ++ more) ≡ step s r
  step_here s = go (leb 1026 (length r)) refl where
    go : (v : Bool) → leb 1026 (length r) ≡ v → step s (r ++ more) ≡ step s r
    go true e = step_front r more (leb-true _ _ e) s
    go false e = ap (λ (m : List ℕ). step s (r ++ m)) (z (and_true ended (ltb 0 (length r)) (rw e at w)).0) ∙ ap (step s) (append-nil r)

  pub some_here : 0 < length r
  some_here = go (leb 1026 (length r)) refl where
    go : (v : Bool) → leb 1026 (length r) ≡ v → 0 < length r
    go true e = omega (arith, leb-true 1026 (length r) e)
    go false e = ltb-true _ _ (and_true ended (ltb 0 (length r)) (rw e at w)).1

  pub prints_more : (s : Carried) (lines : List ℕ) → (step s r).going ≡ true
      → Prints (step s r).carried (drop (step s r).taken r ++ more) lines → Prints s (r ++ more) ((step s r).line ++ lines)
  prints_more s lines g p =
      let e = step_here s in
      rw (← e) (gone_on {s = s} {r = r ++ more} {lines = lines} (rw e g) (rw (e, drop-append-le (step s r).taken r more (taken_within s r)) p))

  pub prints_stop : (s : Carried) → (step s r).going ≡ false → Prints s (r ++ more) (step s r).line
  prints_stop s g =
      let e = step_here s in
      rw (← e) (stopped {s = s} {r = r ++ more} (rw length-append (omega (arith, some_here))) (rw e g))

pub ready_known : (number left room : ℕ) (over : Bool) → ready number left room over ≡ true
    → (number + 1 < 18446744073709551616) × (147 ≤ room) × (whole left over ≡ true)
ready_known number left room over h =
    let p = and_true (ltb number 18446744073709551615 && leb 147 room) (whole left over) h in
    let q = and_true (ltb number 18446744073709551615) (leb 147 room) p.0 in
    (omega (arith, ltb-true number 18446744073709551615 q.0), leb-true _ _ q.1, p.1)

-- what waits once t octets more are taken
waiting_after : (input : List ℕ) (have from t : ℕ) → from + t ≤ have → have ≤ length input
    → drop t (take (have - from) (drop from input)) ≡ take (have - (from + t)) (drop (from + t) input)
waiting_after input have from t h k =
    let e : have - from ≡ t + (have - (from + t)) = omega arith in
    let n = length-drop from input in
    ap (λ (i : ℕ). drop t (take i (drop from input))) e ∙ ap (drop t) (take-add t (have - (from + t)) (drop from input))
    ∙ drop_at (take t (drop from input)) (take (have - (from + t)) (drop t (drop from input))) t (length-take-le t (drop from input) (omega arith))
    ∙ ap (take (have - (from + t))) (drop-drop t from input)

-- a pass under way: where it stands, and what it has added to the output by then
pub record Run (input out₀ : List ℕ) (have from₀ end₀ : ℕ) (over : Bool) (s₀ s : Carried) (from end : ℕ) (out : List ℕ) : Type 0 where
  pub within : have ≤ length input
  pub taken : from ≤ have
  pub room : end ≤ length out₀
  pub later : end₀ ≤ end
  pub same : length out ≡ length out₀
  pub collected : take end₀ out ≡ take end₀ out₀
  pub prints : (more lines : List ℕ) → (over ≡ true → more ≡ []) → Prints s (take (have - from) (drop from input) ++ more) lines
      → Prints s₀ (take (have - from₀) (drop from₀ input) ++ more) (drop end₀ (take end out) ++ lines)

module _ {input out₀ : List ℕ} {have from₀ end₀ : ℕ} {over : Bool} {s₀ : Carried} where
  pub run_start : have ≤ length input → from₀ ≤ have → end₀ ≤ length out₀ → Run input out₀ have from₀ end₀ over s₀ s₀ from₀ end₀ out₀
  run_start h f e = record {
    within = h;
    taken = f;
    room = e;
    later = omega arith;
    same = refl;
    collected = refl;
    prints = λ more lines z p. rw (nothing) p;
  } where
    nothing : drop end₀ (take end₀ out₀) ≡ []
    nothing = drop_of_length-le (take end₀ out₀) {i = end₀} (omega (arith, length-take-le end₀ out₀ e))

  module _ {s : Carried} {from end : ℕ} {out : List ℕ} (run : Run input out₀ have from₀ end₀ over s₀ s from end out)
      {out' : List ℕ} {r : Stepped} (number : ℕ) (ok : ready number (have - from) (length out₀ - end) over ≡ true)
      (st : Stepping (step s (take (have - from) (drop from input))) end out out' r) where
    here_length : length (take (have - from) (drop from input)) ≡ have - from
    here_length = length-take-le (have - from) (drop from input) (omega (arith, run.within, run.taken, length-drop from input))

    w' : whole (length (take (have - from) (drop from input))) over ≡ true
    w' = rw here_length (ready_known number (have - from) (length out₀ - end) over ok).2

    line_within : r.end ≤ length out
    line_within = omega (arith, st.line.within, run.room, run.same, (ready_known number (have - from) (length out₀ - end) over ok).1)

    going_on : {n : ℕ} → r.taken ≡ Some n → (step s (take (have - from) (drop from input))).going ≡ true
    going_on e = sym st.going ∙ rw e

    taken_is : {n : ℕ} → r.taken ≡ Some n → n ≡ (step s (take (have - from) (drop from input))).taken
    taken_is e = ap (λ o. unwrap_or o 0) (sym e) ∙ st.taken

    pub taken_here : {n : ℕ} → r.taken ≡ Some n → from + n ≤ have
    taken_here e = omega (arith, run.taken, taken_is e, taken_within s (take (have - from) (drop from input)), here_length)

    pub more_taken : {n : ℕ} → r.taken ≡ Some n → 2 ≤ n
    more_taken e = omega (arith, taken_is e, taken_some s (take (have - from) (drop from input)) (going_on e))

    pub within_then : r.end ≤ length out₀
    within_then = omega (arith, line_within, run.same)

    -- the output then: what it was, and the line
    output : drop end₀ (take r.end out') ≡ drop end₀ (take end out) ++ (step s (take (have - from) (drop from input))).line
    output =
        ap (drop end₀) (put_taken st.line line_within)
        ∙ drop-append-le end₀ (take end out) _ (omega (arith, run.later, run.same, run.room, length-take-le end out (omega (arith, run.same, run.room))))

    pub collected_then : take end₀ out' ≡ take end₀ out₀
    collected_then = put_before st.line line_within end₀ run.later ∙ run.collected

    pub run_step : {n : ℕ} → r.taken ≡ Some n → Run input out₀ have from₀ end₀ over s₀ (carried_of r.state) (from + n) r.end out'
    run_step {n} e = record {
      within = run.within;
      taken = taken_here e;
      room = within_then;
      later = omega (arith, run.later, st.line.ends);
      same = ap length st.line.holds ∙ length-sets out end (step s (take (have - from) (drop from input))).line ∙ run.same;
      collected = collected_then;
      prints = λ more lines z p.
          rw (output, append_assoc)
          (run.prints more ((step s (take (have - from) (drop from input))).line ++ lines) z
          (prints_more (take (have - from) (drop from input)) more over w' z s lines (going_on e)
          (rw (← st.carried, ← taken_is e, waiting_after input have from n (taken_here e) run.within) p)));
    }

    pub run_stop : is_some r.taken ≡ false → (more : List ℕ) → (over ≡ true → more ≡ [])
        → Prints s₀ (take (have - from₀) (drop from₀ input) ++ more) (drop end₀ (take r.end out') ++ [])
    run_stop g more z =
        rw (output, append-nil)
        (run.prints more (step s (take (have - from) (drop from input))).line z
        (prints_stop (take (have - from) (drop from input)) more over w' z s (sym st.going ∙ g)))

  -- the pass is over, and so is the walk where the input has ended and nothing waits
  pub run_over : {s : Carried} {from end : ℕ} {out : List ℕ} → Run input out₀ have from₀ end₀ over s₀ s from end out
      → (more lines : List ℕ) → (over ≡ true → more ≡ []) → PrintsOn (not over || ltb from have) s (take (have - from) (drop from input) ++ more) lines
      → Prints s₀ (take (have - from₀) (drop from₀ input) ++ more) (drop end₀ (take end out) ++ lines)
  run_over {s} {from} {end} {out} run more lines z p = go (not over || ltb from have) refl where
    go : (v : Bool) → (not over || ltb from have) ≡ v
        → Prints s₀ (take (have - from₀) (drop from₀ input) ++ more) (drop end₀ (take end out) ++ lines)
    go true e = run.prints more lines z (rw e at p)
    go false e =
        let n = or_false (not over) (ltb from have) e in
        let m : more ≡ [] = z (not-false _ n.0) in
        let i : have - from ≡ 0 = omega (arith, ltb-false from have n.1) in
        let l : lines ≡ [] = rw e at p in
        run.prints more lines z (rw (i, m, l) (ended {s = s}))
