use Rattle.std.proofs.Common.{◌≡◌, length, ℕ, get_or, w8, Fits, rules, sym, ◌∙◌, arith, length-set}
use Rattle.std.proofs.lemmas.Grind.{same_number_lists}
use lib.Seq.{get_or-set_same, get_or-set_other}
use Rattle.queue.proofs.widened.Goals as goal

pub loop-i-preserved : goal.loop-i-preserved
loop-i-preserved c =
    let l = c.loop-i in
    (length-set l.wide l.i _ ∙ l.invariant.0, λ k h. search (rules, l.invariant.1 k, get_or-set_same l.wide l.i (get_or c.args.lengths l.i 0) 0, get_or-set_other l.wide l.i k (get_or c.args.lengths l.i 0) 0))

pub returns : goal.returns
returns c =
    let l = c.loop-i in
    let all : length c.args.lengths ≡ 32 = search rules in
    let octets : (k : ℕ) → Fits w8 (get_or c.args.lengths k 0) = λ k. search rules in
    let same : l.wide ≡ c.args.lengths = same_number_lists l.wide c.args.lengths (l.invariant.0 ∙ sym all) (λ k h. l.invariant.1 k (omega (arith, l.invariant.0))) in
    (same, record { all = l.invariant.0; octets = λ k. rw same (omega (arith, octets k)) })
