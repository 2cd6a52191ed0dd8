-- Of the three calls, two outcomes that the promise allows are equal: the answer, the buffer, and SSEQ.
use mathlib.Core.Path.{◌≡◌, refl}
use contract.Lifetimes.{Lfts}
use borrow.Fn.Kinds.{Dens, ended_of}
use denote.Triple.Clauses.{AtExit}
use Rattle.std.specs.Prelude.{Result}
use Rattle.octets.proofs.BoolLaws.{one_outcome}
use Rattle.refusals.specs.declared.Refusal.{Refusal}
use Rattle.refusals.proofs.RefusalLaws.{result_one}
use Rattle.onward.proofs.SentLaws.{sent_one}
use Rattle.endpoint.specs.declared.Words.{Words}
use Rattle.endpoint.specs.Read.{Heard, heard_paper}
use Rattle.plain.proofs.forward.Reads as forward
use Rattle.plain.proofs.forward.Kinds as forward-kinds
use Rattle.plain.proofs.read.Reads as read
use Rattle.plain.proofs.send.Reads as send
use Rattle.plain.proofs.send.Kinds as send-kinds

pub forward_one : (κs : Lfts 2) (a : Dens κs forward-kinds.ps) (r r' : _) (s s' : AtExit (ended_of 2 forward-kinds.ps forward-kinds.r) κs)
    → forward.Post κs a r s → forward.Post κs a r' s'
    → (r ≡ r') × (s.1.1.0.now ≡ s'.1.1.0.now)
forward_one κs a r r' s s' p q = (sent_one r r' (one_outcome p.0 q.0), one_outcome p.1 q.1)

-- only one result has the number and the words of an answer
pub heard_one : (x y : Result Words Refusal) → heard_paper x ≡ heard_paper y → x ≡ y
unfolding heard_paper
heard_one =
    result_one heard_paper (λ (h : Heard). h.refusal) (λ (h : Heard). record { s = h.s; dropped = h.dropped; width = h.width; samples = h.samples }) (λ w. refl) (λ w. refl) (λ n. refl)

pub read_one : (κs : Lfts 1) (a r r' s s' : _) → read.Post κs a r s → read.Post κs a r' s' → r ≡ r'
read_one κs a r r' s s' p q = heard_one r r' (one_outcome p q)

pub send_one : (κs : Lfts 3) (a : Dens κs send-kinds.ps) (r r' : _) (s s' : AtExit (ended_of 3 send-kinds.ps send-kinds.r) κs)
    → send.Post κs a r s → send.Post κs a r' s'
    → (r ≡ r') × (s.1.1.1.1.0.now ≡ s'.1.1.1.1.0.now) × (s.0.now ≡ s'.0.now)
send_one κs a r r' s s' p q = (sent_one r r' (one_outcome p.0 q.0), one_outcome p.1.0 q.1.0, one_outcome p.1.1 q.1.1)
