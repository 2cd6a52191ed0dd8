-- Of each exported call of the endpoint, two outcomes that the promise allows are equal: its number, and every slice that is lent.
use Prim.Native.Nat.{ℕ}
use mathlib.Core.List.{List, [], ◌∷◌}
use lib.Ieee.{Float}
use lib.ListN.{length}
use Rattle.coding.specs.Noise.{noise_of}
use Rattle.endpoint.specs.Fill.{fill_of}
use Rattle.endpoint.specs.Read.{read_answer}
use Rattle.endpoint.specs.Signal.{signal_answer}
use Rattle.card.specs.Card.{short, short_two, written}
use Rattle.card.proofs.OneOutcome.{One, one, Answers, answers}
use Rattle.card_endpoint.specs.Hearing.{noise_numbers, heard_numbers, signal_numbers}

-- a call that answers samples too: their slice
abbrev Hears : ℕ → ℕ → List ℕ → List ℕ → List ℕ → List ℕ → Type 0
Hears flat refusal numbers heard answer samples = Answers flat refusal numbers answer × One (written flat heard samples)

hears : (flat refusal : ℕ) (numbers heard answer samples : List ℕ) → Hears flat refusal numbers heard answer samples
hears flat refusal numbers heard answer samples = (answers flat refusal numbers answer, one (written flat heard samples))

module _ (f out answer samples : List ℕ) where
  pub read_one : Hears (short_two 2 answer 128 samples) (read_answer f).refusal (heard_numbers (read_answer f)) (read_answer f).samples answer samples
  read_one = hears _ _ _ _ answer samples

  pub signal_read_one : (b : ℕ) → Answers (short 3 answer) (signal_answer b f).refusal (signal_numbers (signal_answer b f)) answer
  signal_read_one b = answers _ _ _ answer

  pub fill_one : (last noise : List ℕ) (mlast : ℕ)
      → Hears (short_two 1 answer 128 out) 0 (length (fill_of last noise mlast) ∷ []) (fill_of last noise mlast) answer out
  fill_one last noise mlast = hears _ 0 _ _ answer out

  pub noise_level_one : (code : ℕ) (level : List Float)
      → Answers (short_two 1 answer 1 level) (noise_of code).number (noise_numbers (noise_of code)) answer
      × One (written (short_two 1 answer 1 level) ((noise_of code).level ∷ []) level)
  noise_level_one code level = (answers _ _ _ answer, one _)
