-- Of each exported call of a circuit's watch, two outcomes that the promise allows are equal: its number, and every slice that is lent.
use Prim.Native.Nat.{ℕ}
use mathlib.Core.List.{List}
use lib.ListN.{length}
use Rattle.refusals.specs.Refusals.{◌or_else◌}
use Rattle.watch.specs.Watch.{start_answer}
use Rattle.card.specs.Card.{short, written}
use Rattle.card.proofs.OneOutcome.{One, one, Answers, answers}
use Rattle.card_watch.specs.Watching.{watch_numbers, nine_refusal, tell_numbers, kept_tell}

pub watch_start_one : (states refresh keepalive clock : ℕ) (kept : List ℕ)
    → One (nine_refusal (length kept) or_else (start_answer states refresh keepalive clock).refusal)
    × One (written (nine_refusal (length kept) or_else (start_answer states refresh keepalive clock).refusal) (watch_numbers (start_answer states refresh keepalive clock).after) kept)
watch_start_one states refresh keepalive clock kept = (one _, one _)

pub watch_tell_one : (clock event bits flag : ℕ) (kept answer : List ℕ)
    → Answers (short 4 answer) (kept_tell kept clock event bits flag).refusal (tell_numbers (kept_tell kept clock event bits flag)) answer
    × One (written (short 4 answer or_else (kept_tell kept clock event bits flag).refusal) (watch_numbers (kept_tell kept clock event bits flag).after) kept)
watch_tell_one clock event bits flag kept answer = (answers _ _ _ answer, one _)
