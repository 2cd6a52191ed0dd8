use Rattle.std.proofs.Common.{refl, length}
use Rattle.queue.specs.Calls.{fresh_queue}
use Rattle.card.proofs.CardLaws.{sized, answered}
use Rattle.card_queue.specs.Queues.{queue_numbers, size_refusal}
use Rattle.card_queue.proofs.QueueLaws.{all_cleared}
use Rattle.card_queue.proofs.pelgrant_queue_fresh.Goals as goal

pub returns-clause-kept : goal.returns-clause-kept
returns-clause-kept c =
    let k = c.args.kept.now in
    let e = c.in_default.ensures in
    answered (size_refusal (length k)) 0 (queue_numbers fresh_queue) k e refl c.fill.new.self (all_cleared k c.fill.new.self (sized 70 (length k) e refl) (c.fill.ensures.after (λ y e. e)))
