-- `card_record::arrival` meets its contract.
use Rattle.std.proofs.Common.{List, ℕ, ap, ◌∙◌, ◌++◌, drop, arith}
use Rattle.card.specs.Card.{put}
use Rattle.endpoint.proofs.ReadLaws.{samples_given}
use Rattle.endpoint.proofs.ArrivalLaws.{outcome_readable}
use Rattle.card_record.specs.Record.{record_of}
use Rattle.card_record.proofs.RecordLaws.{Fits, fitting, by_unfit, by_judged, outcome_number, scheduled}
use Rattle.card_record.proofs.arrival.Goals as goal

-- each number fits its field, where none was found that does not
fits : (c : goal.Else-unfit) → let a = c.args in Fits (record_of a.kept)
fits c = let a = c.args in fitting (record_of a.kept) c.if-unfit.false

pub returns-then-unfit : goal.returns-then-unfit
returns-then-unfit c =
    let n = c.no_record in
    let p = c.put in
    let a = c.args in let made_of =
    by_unfit (record_of a.kept) a.frame.now a.clock a.after.now a.answer.now a.samples.now c.if-unfit.true
    n.result p.new.slot n.new.answer n.new.samples n.ensures.number p.ensures n.ensures.answer n.ensures.samples in record { number = made_of.0; after = made_of.1.0; answer = made_of.1.1.0; samples = made_of.1.1.1 }

pub overflow_cast-before : goal.overflow_cast-before
overflow_cast-before c = omega (arith, (fits c).buildout_fits)

pub overflow_cast-before-2 : goal.overflow_cast-before-2
overflow_cast-before-2 c = omega (arith, (fits c).rseq_fits)

pub overflow_cast-before-3 : goal.overflow_cast-before-3
overflow_cast-before-3 c = omega (arith, (fits c).mlast_fits)

pub overflow_cast-before-4 : goal.overflow_cast-before-4
overflow_cast-before-4 c = omega (arith, (fits c).noise_fits)

pub overflow_cast-before-5 : goal.overflow_cast-before-5
overflow_cast-before-5 c = omega (arith, (fits c).scheduled_fits)

pub overflow_cast-before-6 : goal.overflow_cast-before-6
overflow_cast-before-6 c = omega (arith, (fits c).late_fits)

pub overflow_cast-before-7 : goal.overflow_cast-before-7
overflow_cast-before-7 c = omega (arith, (fits c).missing_fits)

pub put-requires-3 : goal.put-requires-3
put-requires-3 c = let start = c.before in omega (arith, start.requires.0)

pub hear_into-requires : goal.hear_into-requires
hear_into-requires c =
    let j = c.judge-j in
    let a = c.args in (
      λ z. outcome_readable (record_of a.kept) a.frame.now a.clock _ j.ensures (outcome_number j.result.outcome j.result.after ∙ scheduled j.result.outcome z),
      c.requires.2,
    )

pub returns : goal.returns
returns c =
    let j = c.judge-j in
    let a = c.args in let made_of =
    by_judged (record_of a.kept) a.frame.now a.clock a.after.now a.answer.now a.samples.now c.if-unfit.false j.result j.ensures
    c.number_of.result c.put-3.new.slot c.put-2.new.slot c.hear_into.new.samples c.number_of.ensures (c.put-3.ensures ∙ ap (λ (l : List ℕ). put l a.after.now) c.record_numbers.ensures)
    (c.put-2.ensures ∙ ap (λ (l : List ℕ). put l a.answer.now) c.told_numbers.ensures) (c.hear_into.ensures ∙ ap (λ (l : List ℕ). l ++ drop 128 a.samples.now) (samples_given j.result.outcome a.frame.now)) in record { number = made_of.0; after = made_of.1.0; answer = made_of.1.1.0; samples = made_of.1.1.1 }
