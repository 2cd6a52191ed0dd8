use Rattle.std.proofs.Common.{rules}
use Rattle.card.specs.Card.{put, written}
use Rattle.endpoint.proofs.ReadLaws.{told_read, samples_read, read_long}
use Rattle.card_endpoint.proofs.pelgrant_read.Goals as goal

pub returns-clause-answer : goal.returns-clause-answer
unfolding written
returns-clause-answer c = search (rules, told_read c.voice_refusal.result c.args.frame.now c.voice_refusal.ensures)

pub returns-clause-samples : goal.returns-clause-samples
unfolding written put
returns-clause-samples c =
    let f = c.args.frame.now in
    search (rules, samples_read c.voice_refusal.result f c.voice_refusal.ensures, read_long f)
