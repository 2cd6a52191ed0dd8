-- Of `forward`, two outcomes that the promise allows are equal: the answer, the buffer, and the list.
use mathlib.Core.Path.{◌≡◌, refl}
use contract.Lifetimes.{Lfts}
use borrow.Fn.Kinds.{Dens, ended_of}
use denote.Triple.Clauses.{AtExit}
use Rattle.octets.proofs.BoolLaws.{one_outcome}
use Rattle.refusals.proofs.RefusalLaws.{result_one}
use Rattle.tray.specs.Tray.{Forwarded, forwarded_paper}
use Rattle.tray.proofs.forward.Reads as forward
use Rattle.tray.proofs.forward.Kinds as kinds

pub forward_one : (κs : Lfts 3) (a : Dens κs kinds.ps) (r r' : _) (s s' : AtExit (ended_of 3 kinds.ps kinds.r) κs)
    → forward.Post κs a r s → forward.Post κs a r' s'
    → (r ≡ r') × (s.1.1.0.now ≡ s'.1.1.0.now) × (s.1.1.1.0.now ≡ s'.1.1.1.0.now)
forward_one κs a r r' s s' p q = (
  result_one forwarded_paper (λ (x : Forwarded). x.refusal) (λ (x : Forwarded). record { records = x.records; written = x.written }) (λ a. refl) (λ a. refl) (λ a. refl) r r'
      (one_outcome p.0 q.0),
  one_outcome p.1.0 q.1.0,
  one_outcome p.1.1 q.1.1,
)
