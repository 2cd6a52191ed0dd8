use Rattle.std.proofs.Common.{arith}
use Rattle.refusals.proofs.RefusalLaws.{number_positive}
use Rattle.playout.specs.Play.{decision_paper}
use Rattle.endpoint.proofs.ArrivalLaws.{decided_early}
use Rattle.endpoint.proofs.decide_frame.Goals as goal

pub returns-in-Err : goal.returns-in-Err
unfolding decision_paper
returns-in-Err c =
    let a = c.args in
    decided_early a.e a.frame.now a.clock _ c.in-Err.ensures (λ z. omega (arith, number_positive c.in-Err.first))
