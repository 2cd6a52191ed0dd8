use mathlib.Core.Path.{refl}
use Rattle.ring.proofs.CopyLaws.{get_gathered}
use Rattle.ring.proofs.gather.Goals as goal

pub returns : goal.returns
returns c =
    let a = c.args in
    get_gathered a.at c.min-k.result a.n a.store.now _ c.copy.new.out c.copy-2.new.out c.requires.0 c.requires.1 c.requires.2 refl c.min-k.ensures c.copy.ensures c.copy-2.ensures
