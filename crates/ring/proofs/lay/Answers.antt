use Rattle.ring.proofs.CopyLaws.{put_placed}
use Rattle.ring.proofs.lay.Goals as goal

pub returns : goal.returns
returns c =
    let a = c.args in
    let parts = c.split_at in
    put_placed a.at c.min.result a.store.now a.octets.now _ _ c.copy.new.out c.copy-2.new.out c.requires.0 c.requires.1 c.min.ensures parts.ensures.front parts.ensures.back c.copy.ensures c.copy-2.ensures
