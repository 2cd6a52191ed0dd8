-- `read_bit` meets its contract.
use Prim.Native.Nat.{◌+◌, ◌%◌}
use mathlib.Core.Path.{ap, ◌∙◌}
use Rattle.plain_check.specs.Bits.{bit}
use Rattle.plain_blocks.proofs.Figure7Laws.{bit_at}
use Rattle.plain_blocks.proofs.read_bit.Goals as goal

pub returns : goal.returns
returns c =
    let a = c.args in
    (c.bit.ensures.0 ∙ ap (bit (1 + a.i % 8)) c.at.ensures.0 ∙ bit_at a.voice.now a.i a.b, c.bit.ensures.1)
