-- Of each public promise, two outcomes that it allows are equal.
use mathlib.Core.Path.{◌≡◌}
use contract.Lifetimes.{Lfts}
use borrow.Fn.Kinds.{Dens, ended_of}
use denote.Triple.Clauses.{AtExit}
use Rattle.octets.proofs.BoolLaws.{one_outcome}
use Rattle.refusals.proofs.RefusalLaws.{judged_one}
use Rattle.blocks.proofs.pack.Reads as pack
use Rattle.blocks.proofs.pack.Kinds as pack-kinds
use Rattle.blocks.proofs.read_blocks.Reads as read-blocks
use Rattle.blocks.proofs.samples_fit.Reads as samples-fit
use Rattle.blocks.proofs.refusal_11.Reads as refusal-11

-- the frame that is left
pub pack_one : (κs : Lfts 2) (a : Dens κs pack-kinds.ps) (r r' : _) (s s' : AtExit (ended_of 2 pack-kinds.ps pack-kinds.r) κs)
    → pack.Post κs a r s → pack.Post κs a r' s' → s.0.now ≡ s'.0.now
pack_one κs a r r' s s' p q = one_outcome p q

-- what is answered
pub read_blocks_one : (κs : Lfts 1) (a r r' s s' : _) → read-blocks.Post κs a r s → read-blocks.Post κs a r' s' → r ≡ r'
read_blocks_one κs a r r' s s' p q = one_outcome p q

pub samples_fit_one : (κs : Lfts 1) (a r r' s s' : _) → samples-fit.Post κs a r s → samples-fit.Post κs a r' s' → r ≡ r'
samples_fit_one κs a r r' s s' p q = one_outcome p q

pub refusal_11_one : (κs : Lfts 1) (a r r' s s' : _) → refusal-11.Post κs a r s → refusal-11.Post κs a r' s' → r ≡ r'
refusal_11_one κs a r r' s s' p q = judged_one r r' (one_outcome p q)
