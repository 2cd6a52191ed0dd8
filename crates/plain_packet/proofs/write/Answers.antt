-- `write` meets its contract: the frame made, and the passes over it.
use Prim.Native.Nat.{◌+◌, ◌*◌, ℕ}
use mathlib.Core.Path.{sym, ◌≡◌, ap, ap₂, ◌∙◌}
use mathlib.Core.List.{List, [], ◌∷◌, ◌++◌}
use native.Mathlib.Omega.{arith}
use lib.Seq.{length-take-le}
use lib.ListN.{length, take, drop}
use Rattle.plain_passes.specs.Passes.{passed}
use Rattle.plain_blocks.specs.Figure7.{picked_blocks}
use Rattle.plain_packet.proofs.PacketLaws.{made_front}
use Rattle.plain_blocks.proofs.Figure7Laws.{blocks_length}
use Rattle.plain_packet.proofs.write.Goals as goal

pub send_on-requires : goal.send_on-requires
send_on-requires c =
    let a = c.args in
    let p = c.requires in
    let whole : take (8 + 16 * a.s + 2) c.make.new.frame ≡ a.head ++ picked_blocks a.s a.samples.now a.s ++ 0 ∷ 0 ∷ [] =
    made_front a.head (picked_blocks a.s a.samples.now a.s) c.make.new.frame a.s (omega arith) (blocks_length a.s a.samples.now a.s) p.0 c.make.ensures in
    let long : length (a.head ++ picked_blocks a.s a.samples.now a.s ++ 0 ∷ 0 ∷ []) ≡ length (take (8 + 16 * a.s + 2) c.make.new.frame) = ap length (sym whole) in
    (omega (arith, length-take-le (8 + 16 * a.s + 2) c.make.new.frame (omega arith)), c.wait_between-wait.ensures.1, rw c.from-2.ensures p.1, rw (c.from.ensures, whole) p.2)

pub returns : goal.returns
returns c =
    let a = c.args in
    let hop = a.hop in
    let whole : take (8 + 16 * a.s + 2) c.make.new.frame ≡ a.head ++ picked_blocks a.s a.samples.now a.s ++ 0 ∷ 0 ∷ [] =
    made_front a.head (picked_blocks a.s a.samples.now a.s) c.make.new.frame a.s (omega arith) (blocks_length a.s a.samples.now a.s) c.requires.0 c.make.ensures in
    let w = c.wait_between-wait.ensures.0 in
    let sent = c.send_on in
    rw (sym c.from.ensures, sym c.from-2.ensures)
    (sent.ensures.0 ∙ ap₂ (λ (t : ℕ) (l : List ℕ). length (passed c.from.result t c.from-2.result l)) w whole, sent.ensures.1 ∙ ap₂ (λ (t : ℕ) (l : List ℕ). passed c.from.result t c.from-2.result l ++ drop sent.result a.out.now) w whole)
