use mathlib.Core.Path.{refl}
use Rattle.octets.specs.Octets.{tab}
use Rattle.coding.specs.Coding.{row}
use Rattle.coding.proofs.CodingLaws.{column}
use Rattle.coding.proofs.Coding.sample_bits.Goals as goal

pub returns : goal.returns
unfolding tab row
returns c = column (λ r. r.0) _ c.args.self.0 c.entry.result c.entry.ensures refl refl refl
