-- Of each call, two outcomes that the promise allows are equal: the answer with the record after it, and what is lent.
use mathlib.Core.Path.{◌≡◌, refl}
use contract.Lifetimes.{Lfts}
use borrow.Fn.Kinds.{Dens, ended_of}
use denote.Triple.Clauses.{AtExit}
use Rattle.octets.proofs.BoolLaws.{one_outcome}
use Rattle.refusals.proofs.RefusalLaws.{result_one}
use Rattle.room.specs.Rules.{GivenBack, freed_paper}
use Rattle.queue.specs.Calls.{Entered, entered_paper, Taken, taken_paper}
use Rattle.queue.proofs.fresh.Reads as fresh
use Rattle.queue.proofs.fresh.Kinds as fresh-kinds
use Rattle.queue.proofs.enter.Reads as enter
use Rattle.queue.proofs.enter.Kinds as enter-kinds
use Rattle.queue.proofs.take.Reads as take
use Rattle.queue.proofs.take.Kinds as take-kinds
use Rattle.queue.proofs.freed.Reads as freed
use Rattle.queue.proofs.freed.Kinds as freed-kinds

pub fresh_one : (κs : Lfts 0) (a : Dens κs fresh-kinds.ps) (r r' : _) (s s' : AtExit (ended_of 0 fresh-kinds.ps fresh-kinds.r) κs)
    → fresh.Post κs a r s → fresh.Post κs a r' s' → r ≡ r'
fresh_one κs a r r' s s' p q = one_outcome p q

pub enter_one : (κs : Lfts 2) (a : Dens κs enter-kinds.ps) (r r' : _) (s s' : AtExit (ended_of 2 enter-kinds.ps enter-kinds.r) κs)
    → enter.Post κs a r s → enter.Post κs a r' s' → (r ≡ r') × (s.0.now ≡ s'.0.now)
unfolding entered_paper
enter_one κs a r r' s s' p q =
    (result_one (entered_paper _) (λ (x : Entered). x.refusal) (λ (x : Entered). x.after) (λ a. refl) (λ a. refl) (λ a. refl) r r' (one_outcome p.0 q.0), one_outcome p.1.0 q.1.0)

pub take_one : (κs : Lfts 2) (a : Dens κs take-kinds.ps) (r r' : _) (s s' : AtExit (ended_of 2 take-kinds.ps take-kinds.r) κs)
    → take.Post κs a r s → take.Post κs a r' s' → (r ≡ r') × (s.1.1.1.1.1.0.now ≡ s'.1.1.1.1.1.0.now)
unfolding taken_paper
take_one κs a r r' s s' p q = (
  result_one (taken_paper _) (λ (x : Taken). x.refusal) (λ (x : Taken). record { length = x.length; after = x.after }) (λ a. refl) (λ a. refl) (λ a. refl) r r' (one_outcome p.0 q.0),
  one_outcome p.1.0 q.1.0,
)

pub freed_one : (κs : Lfts 0) (a : Dens κs freed-kinds.ps) (r r' : _) (s s' : AtExit (ended_of 0 freed-kinds.ps freed-kinds.r) κs)
    → freed.Post κs a r s → freed.Post κs a r' s' → r ≡ r'
unfolding freed_paper
freed_one κs a r r' s s' p q = result_one freed_paper (λ (x : GivenBack). x.refusal) (λ (x : GivenBack). x.octets) (λ a. refl) (λ a. refl) (λ a. refl) r r' (one_outcome p q)
