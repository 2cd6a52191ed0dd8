-- `make` meets its contract: octets 1 to 8, and the blocks behind them.
use Rattle.std.proofs.Common.{◌≡◌, ◌*◌, ◌++◌, List, ℕ, length, drop, ap, arith}
use Rattle.octets.proofs.PartLaws.{grown}
use Rattle.plain_blocks.specs.Figure7.{picked_blocks}
use Rattle.plain_blocks.proofs.Figure7Laws.{blocks_length}
use Rattle.plain_packet.proofs.make.Goals as goal

pub returns : goal.returns
returns c =
    let a = c.args in
    let x = c.copy_from_slice in
    let eight : length a.head ≡ 8 = omega arith in
    grown a.head (picked_blocks a.s a.samples.now a.s) a.frame.now (x.new.self ++ drop 8 a.frame.now) c.pick_blocks.new.voice 8 (16 * a.s) eight (blocks_length a.s a.samples.now a.s)
    (ap (λ (h : List ℕ). h ++ drop 8 a.frame.now) x.ensures.after) c.pick_blocks.ensures
