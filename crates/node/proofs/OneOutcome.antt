-- Of `forward`, two outcomes that the promise allows are equal: the answer, and the buffer.
use mathlib.Core.Path.{◌≡◌}
use contract.Lifetimes.{Lfts}
use borrow.Fn.Kinds.{Dens, ended_of}
use denote.Triple.Clauses.{AtExit}
use Rattle.octets.proofs.BoolLaws.{one_outcome}
use Rattle.onward.proofs.SentLaws.{sent_one}
use Rattle.node.proofs.forward.Reads as forward
use Rattle.node.proofs.forward.Kinds as kinds

pub forward_one : (κs : Lfts 2) (a : Dens κs kinds.ps) (r r' : _) (s s' : AtExit (ended_of 2 kinds.ps kinds.r) κs)
    → forward.Post κs a r s → forward.Post κs a r' s'
    → (r ≡ r') × (s.1.1.0.now ≡ s'.1.1.0.now)
forward_one κs a r r' s s' p q = (sent_one r r' (one_outcome p.0 q.0), one_outcome p.1 q.1)
