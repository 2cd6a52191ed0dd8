use native.Mathlib.Omega.{arith}
use Rattle.blocks.proofs.BitLaws.{upper_bit}
use Rattle.blocks.proofs.upper.Goals as goal

pub returns : goal.returns
returns c = let a = c.args in λ p h. rw c.unlike.ensures (upper_bit a.a a.b a.d a.m p (omega arith) c.requires.2 h)
