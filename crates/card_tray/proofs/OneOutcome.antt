-- Of the exported call of a tray, two outcomes that the promise allows are equal: its number, and every slice that is lent.
use Prim.Native.Nat.{ℕ}
use mathlib.Core.List.{List}
use Rattle.refusals.specs.Refusals.{if_taken}
use Rattle.tray.specs.Tray.{tray_answer, tray_buffer, tray_list}
use Rattle.card.specs.Card.{short}
use Rattle.card.proofs.OneOutcome.{One, one, Answers, answers}
use Rattle.card_tray.specs.Trays.{forwarded_numbers}

pub forward_tray_one : (level wait addr : ℕ) (tray out list answer : List ℕ)
    → Answers (short 2 answer) (tray_answer level wait addr tray out list).refusal (forwarded_numbers (tray_answer level wait addr tray out list)) answer
    × One (if_taken (short 2 answer) (tray_buffer level wait addr tray out list) out)
    × One (if_taken (short 2 answer) (tray_list level wait addr tray out list) list)
forward_tray_one level wait addr tray out list answer = (answers _ _ _ answer, one _, one _)
