-- Of `send` and `signal`, two outcomes that the promise allows are equal: the answer, the buffer, and SSEQ.
use mathlib.Core.Path.{◌≡◌}
use contract.Lifetimes.{Lfts}
use borrow.Fn.Kinds.{Dens, ended_of}
use denote.Triple.Clauses.{AtExit}
use Rattle.octets.proofs.BoolLaws.{one_outcome}
use Rattle.onward.proofs.SentLaws.{sent_one}
use Rattle.origin.proofs.send.Reads as send
use Rattle.origin.proofs.send.Kinds as send-kinds
use Rattle.origin.proofs.signal.Reads as signal
use Rattle.origin.proofs.signal.Kinds as signal-kinds

pub send_one : (κs : Lfts 3) (a : Dens κs send-kinds.ps) (r r' : _) (s s' : AtExit (ended_of 3 send-kinds.ps send-kinds.r) κs)
    → send.Post κs a r s → send.Post κs a r' s'
    → (r ≡ r') × (s.1.1.1.1.0.now ≡ s'.1.1.1.1.0.now) × (s.0.now ≡ s'.0.now)
send_one κs a r r' s s' p q = (sent_one r r' (one_outcome p.0 q.0), one_outcome p.1.0 q.1.0, one_outcome p.1.1 q.1.1)

pub signal_one : (κs : Lfts 1) (a : Dens κs signal-kinds.ps) (r r' : _) (s s' : AtExit (ended_of 1 signal-kinds.ps signal-kinds.r) κs)
    → signal.Post κs a r s → signal.Post κs a r' s'
    → (r ≡ r') × (s.1.1.1.0.now ≡ s'.1.1.1.0.now)
signal_one κs a r r' s s' p q = (sent_one r r' (one_outcome p.0 q.0), one_outcome p.1 q.1)
