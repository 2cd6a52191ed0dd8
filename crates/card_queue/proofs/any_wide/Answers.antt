use Rattle.std.proofs.Common.{◌∙◌, ◌<◌, ap, refl, arith, Bool, ◌||◌, ltb, length, get_or, add-one}
use lib.Seq.{take_all}
use Rattle.totals.specs.Totals.{any_above}
use Rattle.card_queue.proofs.QueueLaws.{above_more}
use Rattle.card_queue.proofs.any_wide.Goals as goal

pub loop-length-init : goal.loop-length-init
unfolding any_above
loop-length-init c = refl

pub loop-length-preserved : goal.loop-length-preserved
loop-length-preserved c =
    let l = c.loop-length in
    let a = c.args.lengths.now in
    let within : l.length-index < length a = omega arith in
    ap (λ (b : Bool). b || ltb 255 (get_or a l.length-index 0)) l.invariant ∙ rw add-one (above_more a l.length-index within)

pub returns : goal.returns
returns c =
    let l = c.loop-length in
    l.invariant ∙ ap (any_above 255) (take_all l.length-index c.args.lengths.now (omega arith))
