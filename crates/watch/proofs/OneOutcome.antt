-- Of each public promise, two outcomes that it allows are equal.
use mathlib.Core.Path.{◌≡◌, refl}
use contract.Lifetimes.{Lfts}
use Rattle.octets.proofs.BoolLaws.{one_outcome}
use Rattle.refusals.proofs.RefusalLaws.{result_one}
use Rattle.watch.specs.Watch.{Watched, start_paper, watched_paper}
use Rattle.watch.proofs.start.Reads as start
use Rattle.watch.proofs.tell.Reads as tell

pub start_one : (κs : Lfts 0) (a r r' s s' : _) → start.Post κs a r s → start.Post κs a r' s' → r ≡ r'
unfolding start_paper
start_one κs a r r' s s' p q = result_one start_paper (λ (x : Watched). x.refusal) (λ (x : Watched). x.after) (λ w. refl) (λ w. refl) (λ n. refl) r r' (one_outcome p q)

pub tell_one : (κs : Lfts 0) (a r r' s s' : _) → tell.Post κs a r s → tell.Post κs a r' s' → r ≡ r'
unfolding watched_paper
tell_one κs a r r' s s' p q =
    result_one (watched_paper a.0) (λ (x : Watched). x.refusal)
    (λ (x : Watched). record { sends = x.sends; bits = x.bits; na = x.na; conditioning = x.conditioning; after = x.after })
    (λ d. refl) (λ d. refl) (λ n. refl) r r' (one_outcome p q)
