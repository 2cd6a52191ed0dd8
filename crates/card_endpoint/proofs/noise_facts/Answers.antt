use mathlib.Core.Path.{refl}
use lib.Ieee.{round, of_bits}
use Rattle.coding.specs.Noise.{paper}
use Rattle.card_endpoint.proofs.noise_facts.Goals as goal

pub returns-in-Idle : goal.returns-in-Idle
unfolding paper round of_bits
returns-in-Idle c = rw c.in-Idle.is (refl, refl, refl)

pub returns-in-Refused : goal.returns-in-Refused
unfolding paper round of_bits
returns-in-Refused c = rw c.in-Refused.is (refl, refl, refl)
