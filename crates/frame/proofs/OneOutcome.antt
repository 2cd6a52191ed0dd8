-- Of `link` and `taken`, two outcomes that the promise allows are equal.
use mathlib.Core.Path.{◌≡◌, refl}
use contract.Lifetimes.{Lfts}
use Rattle.octets.proofs.BoolLaws.{one_outcome}
use Rattle.refusals.proofs.RefusalLaws.{result_one}
use Rattle.frame.specs.Calls.{Link, Taken, link_paper, taken_paper}
use Rattle.frame.proofs.link.Reads as link
use Rattle.frame.proofs.taken.Reads as taken

pub link_one : (κs : Lfts 1) (a r r' s s' : _) → link.Post κs a r s → link.Post κs a r' s' → r ≡ r'
unfolding link_paper
link_one κs a r r' s s' p q = result_one link_paper (λ (x : Link). x.refusal) (λ (x : Link). record { voice = x.voice; address = x.address }) (λ a. refl) (λ a. refl) (λ a. refl) r r' (one_outcome p q)

pub taken_one : (κs : Lfts 1) (a r r' s s' : _) → taken.Post κs a r s → taken.Post κs a r' s' → r ≡ r'
unfolding taken_paper
taken_one κs a r r' s s' p q = result_one taken_paper (λ (x : Taken). x.refusal) (λ (x : Taken). record { voice = x.voice; length = x.length; c = x.c }) (λ a. refl) (λ a. refl) (λ a. refl) r r' (one_outcome p q)
