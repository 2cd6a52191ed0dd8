use Prim.Native.Nat.{◌+◌}
use mathlib.Core.Path.{◌≡◌, refl, sym, ap, ◌∙◌}
use mathlib.Core.Bool.{true, false}
use native.Mathlib.Omega.{arith}
use lib.ListN.{take}
use lib.Seq.{length-take-le}
use Rattle.walking.specs.Walk.{legal, first, outcome, counted}
use Rattle.walking.specs.Held.{carried_of, outcome_of}
use Rattle.walking.proofs.TextLaws.{put_wider}
use Rattle.walking.proofs.WalkLaws.{step_taken, step_stopped, legal_whole}
use Rattle.walking.proofs.step.Goals as goal

pub returns-then-not-legal : goal.returns-then-not-legal
returns-then-not-legal c =
    let a = c.args in
    let l : legal a.rest.now ≡ false = sym c.legal.ensures ∙ c.if-not-legal.true in
    rw (step_stopped (carried_of a.state) a.rest.now l)
    (record { carried = refl; taken = refl; going = refl; line = put_wider c.put_stop-end.ensures (omega arith) })

pub slice_bounds-take_record-end : goal.slice_bounds-take_record-end
slice_bounds-take_record-end c =
    let r = c.args.rest.now in
    let l : legal r ≡ true = sym c.legal.ensures ∙ c.if-not-legal.false in
    sym (length-take-le _ _ (omega (arith, legal_whole r l)))

pub returns : goal.returns
returns c =
    let a = c.args in
    let t = c.take_record-outcome in
    let l : legal a.rest.now ≡ true = sym c.legal.ensures ∙ c.if-not-legal.false in
    let n = c.two_octets-taken.ensures.0 in
    let o : outcome_of t.result ≡ outcome (counted (carried_of a.state)) (first a.rest.now) =
    t.ensures ∙ ap (λ k. outcome (counted (carried_of a.state)) (take (2 + k) a.rest.now)) n in
    rw (step_taken (carried_of a.state) a.rest.now l)
    (record {
      carried = ap (λ o. o.carried) o;
      taken = ap (◌+◌ 2) n;
      going = refl;
      line = rw (← o, ← c.numbers.ensures.0) (put_wider c.put_line-end.ensures (omega (arith, c.numbers.ensures.1)));
    })
