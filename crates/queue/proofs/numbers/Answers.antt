use Rattle.queue.proofs.AnswerLaws.{same_record}
use Rattle.queue.proofs.numbers.Goals as goal

pub returns : goal.returns
returns c = same_record c.args.q.now c.outline.result c.args.wide.now c.outline.ensures c.requires.0
