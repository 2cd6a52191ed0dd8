-- Document 01, "Play-out": what a signalling frame answers, and the order of the signalling reader.
use Rattle.std.specs.Prelude.{ℕ, List, Result, Ok, Err}
use Rattle.refusals.specs.Refusals.{◌or_else◌, if_taken, number}
use Rattle.refusals.specs.declared.Refusal.{Refusal}
use Rattle.frame.specs.Fields.{stamp, na, signal_bits}
use Rattle.frame.specs.Orders.{signal_refusal}
use Rattle.endpoint.specs.declared.SignalFacts.{SignalFacts}
use Rattle.playout.specs.Play.{refusal14_b, refusal17_b, hold}

-- the number, or 0 and what is heard
pub record SignalHeard : Type 0 where
  pub refusal : ℕ
  pub bits : ℕ
  pub na : ℕ
  pub hold : ℕ

-- the paper's number and values for each case
unfoldable pub signal_paper : Result SignalFacts Refusal → SignalHeard
signal_paper (Ok a) = record { refusal = 0; bits = a.bits; na = a.na; hold = a.hold }
signal_paper (Err r) = record { refusal = number r; bits = 0; na = 0; hold = 0 }

-- 14 (B only), 1 to 5 with 24, 19, 7, 8, 9, 17
unfoldable pub signal_order : ℕ → List ℕ → ℕ
signal_order b f = refusal14_b b or_else signal_refusal f or_else refusal17_b b (stamp f)

-- its four bits, N/A and the hold; else the number, and zeros elsewhere
unfoldable pub signal_answer : ℕ → List ℕ → SignalHeard
signal_answer b f =
    if_taken (signal_order b f)
    (record { refusal = 0; bits = signal_bits f; na = na f; hold = hold b (stamp f) })
    (record { refusal = signal_order b f; bits = 0; na = 0; hold = 0 })
