-- `divide` meets its contract: the lines still to come, from the leading bit on, give what all of them give.
use Rattle.std.proofs.Common.{◌≡◌, ℕ, ◌+◌, ◌-◌, length, drop, sym, ap, ◌∙◌, arith}
use Rattle.octets.proofs.PartLaws.{tail_of, tail_put}
use Rattle.plain_check.specs.Check.{reduced, lines, remainder}
use Rattle.plain_check.proofs.WalkLaws.{line_next, lines_none}
use Rattle.plain_check.proofs.divide.Goals as goal

pub loop-leading-preserved : goal.loop-leading-preserved
loop-leading-preserved c =
    let a = c.args in
    let l = c.loop-leading in
    let q = c.reduce in
    let last : ℕ = length a.bits.now - 16 in
    ap (λ t. lines (last - (l.leading + 1)) (drop (l.leading + 1) t)) (tail_put l.leading l.bits q.new.bits (omega arith))
    ∙ line_next l.bits q.new.bits last l.leading (omega arith) (omega arith) (q.ensures ∙ ap reduced (tail_of l.leading l.bits))
    ∙ l.invariant

pub returns : goal.returns
unfolding remainder
returns c =
    let a = c.args in
    let l = c.loop-leading in
    let e : l.leading ≡ length a.bits.now - 16 = omega arith in
    let z : length a.bits.now - 16 - l.leading ≡ 0 = omega arith in
    ap (λ n. drop n l.bits) (sym e) ∙ sym (lines_none (drop l.leading l.bits)) ∙ ap (λ n. lines n (drop l.leading l.bits)) (sym z) ∙ l.invariant
