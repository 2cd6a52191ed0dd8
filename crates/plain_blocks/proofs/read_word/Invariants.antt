-- `read_word` meets its contract: the word of the blocks passed.
use Prim.Native.Nat.{◌+◌}
use mathlib.Core.Path.{◌≡◌}
use Rattle.plain_blocks.specs.Figure7.{read_word}
use Rattle.plain_blocks.proofs.read_word.Given as goal

abbrev pub invariant-loop-b : goal.invariant-loop-b
invariant-loop-b l = l.word ≡ read_word l.voice l.b (l.i + 1)
