use native.Mathlib.Omega.{arith}
use Rattle.origin.proofs.SendLaws.{refusal_by_type}
use Rattle.origin.proofs.send_refusal.Goals as goal

pub returns : goal.returns
returns c wait = grind (arith, refusal_by_type)
