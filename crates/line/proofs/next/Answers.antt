-- `line::next` meets its contract, one law for each way out.
use Prim.Native.Nat.{ℕ}
use mathlib.Core.Bool.{Bool, false, ◌||◌}
use mathlib.Core.Path.{refl, sym, ap, ◌∙◌}
use native.Mathlib.Omega.{arith}
use lib.ListN.{length}
use lib.Dec.{eqb, ltb, lit≤}
use Rattle.refusals.specs.Refusals.{number}
use Rattle.refusals.proofs.RefusalLaws.{number_positive}
use Rattle.line.specs.Calls.{place_told, taken_off_paper, TakenOff}
use Rattle.line.proofs.NextLaws.{next_14, open_within, begin_within, found}
use Rattle.line.proofs.PlaceLaws.{beside, call_refused, allowed, refused_by, short_of, room_for}
use Rattle.line.proofs.next.Goals as goal

-- whether a place stands beside an answer's number
abbrev place_of : TakenOff → Bool
place_of a = place_told a.refusal

pub returns-in_err-refuse : goal.returns-in_err-refuse
returns-in_err-refuse c =
    let a = c.args in
    let q = c.in_err-refuse.field-0.0 in
    let e = call_refused c.from_residual.result q c.from_residual.ensures in
    let b = refused_by q (c.past.result || ltb a.count a.place) 14 c.in_err-refuse.ensures in
    let r = next_14 a.line.now a.out.now a.count a.place (ap (λ t. t || ltb a.count a.place) (sym c.past.ensures) ∙ b.1) in
    let w = ap taken_off_paper e ∙ ap (λ n. record { refusal = n; found = false; length = 0; place = 0 }) b.0 ∙ r.0 in
    record { answer = w; place = rw e (ap place_of r.0); buffer = r.1 }

pub overflow_sub-count : goal.overflow_sub-count
overflow_sub-count c =
    let a = c.args in
    let k = allowed (length a.line.now) a.count a.place c.past.result c.past.ensures c.in_ok-refuse.ensures in
    open_within a.line.now a.out.now a.count a.place k.0 k.1 c.seek-open.result c.seek-open.ensures

pub seek-end-requires : goal.seek-end-requires
seek-end-requires c =
    let a = c.args in
    let k = allowed (length a.line.now) a.count a.place c.past.result c.past.ensures c.in_ok-refuse.ensures in
    begin_within a.line.now a.out.now a.count a.place k.0 k.1 c.seek-open.result c.seek-open.ensures
    c.min.result c.min.ensures

pub returns-then-end-count : goal.returns-then-end-count
returns-then-end-count c =
    let a = c.args in
    let k = allowed (length a.line.now) a.count a.place c.past.result c.past.ensures c.in_ok-refuse.ensures in
    let f =
    found a.line.now a.out.now a.count a.place k.0 k.1 c.seek-open.result c.seek-open.ensures
    c.min.result c.min.ensures c.seek-end.result (omega arith) c.seek-end.ensures in
    let r = f.none c.if-end-count.true in
    record { answer = r.0; place = ap place_of r.0; buffer = r.1 }

pub invariant_of-sent : goal.invariant_of-sent
invariant_of-sent c =
    let a = c.args in
    let k = allowed (length a.line.now) a.count a.place c.past.result c.past.ensures c.in_ok-refuse.ensures in
    let f =
    found a.line.now a.out.now a.count a.place k.0 k.1 c.seek-open.result c.seek-open.ensures
    c.min.result c.min.ensures c.seek-end.result (omega arith) c.seek-end.ensures in
    let apart = f.between c.if-end-count.false in
    record { ordered = apart.0; within = apart.1 }

pub plain_length-n-requires : goal.plain_length-n-requires
plain_length-n-requires c =
    let a = c.args in
    let k = allowed (length a.line.now) a.count a.place c.past.result c.past.ensures c.in_ok-refuse.ensures in
    let f =
    found a.line.now a.out.now a.count a.place k.0 k.1 c.seek-open.result c.seek-open.ensures
    c.min.result c.min.ensures c.seek-end.result (omega arith) c.seek-end.ensures in
    let apart = f.between c.if-end-count.false in
    apart.3

pub window-requires : goal.window-requires
window-requires c =
    let a = c.args in
    let k = allowed (length a.line.now) a.count a.place c.past.result c.past.ensures c.in_ok-refuse.ensures in
    let f =
    found a.line.now a.out.now a.count a.place k.0 k.1 c.seek-open.result c.seek-open.ensures
    c.min.result c.min.ensures c.seek-end.result (omega arith) c.seek-end.ensures in
    (lit≤ tt, f.stands c.if-end-count.false)

pub returns-in-Err : goal.returns-in-Err
returns-in-Err c =
    let a = c.args in
    let k = allowed (length a.line.now) a.count a.place c.past.result c.past.ensures c.in_ok-refuse.ensures in
    let f =
    found a.line.now a.out.now a.count a.place k.0 k.1 c.seek-open.result c.seek-open.ensures
    c.min.result c.min.ensures c.seek-end.result (omega arith) c.seek-end.ensures in
    let b = c.in-Err.ensures in
    let judge =
    f.judged c.if-end-count.false c.plain_length-n.result (number c.in-Err.refusal) (eqb c.window.result 1) c.plain_length-n.ensures
    (ap (λ (x : ℕ). eqb x 1) c.window.ensures) b in
    let r = judge.refused _ (number_positive c.in-Err.refusal) in
    record { answer = r.0; place = beside c.plain_length-n.result c.in-Err.refusal (eqb c.window.result 1) b ∙ ap place_of r.0; buffer = r.1 }

pub returns-in_err-refusal_16 : goal.returns-in_err-refusal_16
returns-in_err-refusal_16 c =
    let a = c.args in
    let k = allowed (length a.line.now) a.count a.place c.past.result c.past.ensures c.in_ok-refuse.ensures in
    let f =
    found a.line.now a.out.now a.count a.place k.0 k.1 c.seek-open.result c.seek-open.ensures
    c.min.result c.min.ensures c.seek-end.result (omega arith) c.seek-end.ensures in
    let judge =
    f.judged c.if-end-count.false c.plain_length-n.result 0 (eqb c.window.result 1) c.plain_length-n.ensures
    (ap (λ (x : ℕ). eqb x 1) c.window.ensures) c.in_default.ensures in
    let q = c.in_err-refusal_16.field-0.0 in
    let e = call_refused c.from_residual-in_err-refusal_16.result q c.from_residual-in_err-refusal_16.ensures in
    let b = short_of q (length a.out.now) _ c.in_err-refusal_16.ensures in
    let r = judge.short refl b.1 in
    record { answer = rw (e, b.0) r.0; place = rw e (ap place_of r.0); buffer = r.1 }

pub carry-requires : goal.carry-requires
carry-requires c =
    let a = c.args in
    let k = allowed (length a.line.now) a.count a.place c.past.result c.past.ensures c.in_ok-refuse.ensures in
    let f =
    found a.line.now a.out.now a.count a.place k.0 k.1 c.seek-open.result c.seek-open.ensures
    c.min.result c.min.ensures c.seek-end.result (omega arith) c.seek-end.ensures in
    let judge =
    f.judged c.if-end-count.false c.plain_length-n.result 0 (eqb c.window.result 1) c.plain_length-n.ensures
    (ap (λ (x : ℕ). eqb x 1) c.window.ensures) c.in_default.ensures in
    let apart = f.between c.if-end-count.false in
    let none = c.none.ensures in
    (apart.2, rw (none.at, none.none) (judge.room refl (room_for (length a.out.now) _ c.in_ok-refusal_16.ensures)))

pub returns : goal.returns
returns c =
    let a = c.args in
    let k = allowed (length a.line.now) a.count a.place c.past.result c.past.ensures c.in_ok-refuse.ensures in
    let f =
    found a.line.now a.out.now a.count a.place k.0 k.1 c.seek-open.result c.seek-open.ensures
    c.min.result c.min.ensures c.seek-end.result (omega arith) c.seek-end.ensures in
    let judge =
    f.judged c.if-end-count.false c.plain_length-n.result 0 (eqb c.window.result 1) c.plain_length-n.ensures
    (ap (λ (x : ℕ). eqb x 1) c.window.ensures) c.in_default.ensures in
    let k = c.carry in
    let none = c.none.ensures in
    let r =
    judge.done refl (room_for (length a.out.now) _ c.in_ok-refusal_16.ensures) k.new.out k.result.at k.result.bits k.result.n (λ i. omega (arith, c.type_inv.out i))
    (rw (none.at, none.bits, none.none) at k.ensures) in
    record { answer = r.0; place = ap place_of r.0; buffer = r.1 }
