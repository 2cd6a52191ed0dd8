-- Two outcomes that the promise allows are equal.
use mathlib.Core.Path.{◌≡◌}
use contract.Lifetimes.{Lfts}
use Rattle.octets.proofs.BoolLaws.{one_outcome}
use Rattle.trunk.proofs.event_of.Reads as event-of

-- whatever type the refusal has
pub event_of_one : (g met drop : _) (κs : Lfts 1) (a r r' s s' : _) → event-of.Post g met drop κs a r s → event-of.Post g met drop κs a r' s' → r ≡ r'
event_of_one g met drop κs a r r' s s' p q = one_outcome p q
