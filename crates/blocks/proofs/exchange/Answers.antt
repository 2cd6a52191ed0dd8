use mathlib.Core.Path.{◌≡◌, refl, subst}
use native.Mathlib.Omega.{arith}
use borrow.Author.Rules.{rules}
use lib.ListN.{length-set}
use Rattle.blocks.proofs.PlaneLaws.{Done, mask_needs, cross_more, exchange_end}
use Rattle.blocks.proofs.exchange.Goals as goal

pub loop-i-init : goal.loop-i-init
loop-i-init c = (search rules, refl, λ n p hn hp l. absurd (omega arith))

pub lower-requires : goal.lower-requires
lower-requires c = mask_needs _ _ c.requires

pub upper-requires : goal.upper-requires
upper-requires c = mask_needs _ _ c.requires

pub loop-i-preserved : goal.loop-i-preserved
loop-i-preserved c =
    let b = c.before in
    let l = c.loop-i in
    let lo = c.lower in (
      omega arith,
      simp length-set l.invariant.1,
      cross_more b.args.from.now l.to b.args.d l.i lo.result c.upper.result (omega arith) l.invariant.1 lo.ensures c.upper.ensures l.invariant.2,
    )

pub returns : goal.returns
returns c =
    let b = c.before in
    let l = c.loop-i in
    let e : l.i ≡ 64 = omega arith in
    exchange_end b.args.from.now l.to c.riffle_rows.result b.args.d (subst (Done b.args.from.now b.args.d l.to) e l.invariant.2) c.riffle_rows.ensures
