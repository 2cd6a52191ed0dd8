-- `read_word` meets its contract: the word of the blocks passed.
use Prim.Native.Nat.{ℕ, ◌+◌, ◌*◌, ◌<◌}
use mathlib.Core.Path.{sym, ap, ◌∙◌, ap₂}
use native.Mathlib.Numerals.{add-one}
use native.Mathlib.Omega.{arith}
use lib.Pow.{pow_mono}
use Rattle.plain_blocks.specs.Figure7.{read_word}
use Rattle.plain_blocks.proofs.Figure7Laws.{word_none, word_more, word_below}
use Rattle.plain_blocks.proofs.read_word.Goals as goal

pub loop-b-init : goal.loop-b-init
loop-b-init c = sym (word_none _ _)

pub overflow_mul-word : goal.overflow_mul-word
overflow_mul-word c =
    let half : c.loop-b.word < 128 =
    let l = c.loop-b in
    omega (arith, word_below c.args.voice.now l.b (c.args.i + 1), pow_mono {i = l.b} {j = 7} (omega arith)) in
    omega (arith, half)

pub overflow_add-word : goal.overflow_add-word
overflow_add-word c =
    let half : c.loop-b.word < 128 =
    let l = c.loop-b in
    omega (arith, word_below c.args.voice.now l.b (c.args.i + 1), pow_mono {i = l.b} {j = 7} (omega arith)) in
    omega (arith, half, c.read_bit.ensures.1)

pub loop-b-preserved : goal.loop-b-preserved
loop-b-preserved c =
    let a = c.args in
    let l = c.loop-b in
    rw (add-one l.b) (ap₂ (λ (x y : ℕ). 2 * x + y) l.invariant c.read_bit.ensures.0 ∙ sym (word_more a.voice.now l.b (a.i + 1)))

pub returns : goal.returns
returns c =
    let a = c.args in
    let l = c.loop-b in
    l.invariant ∙ ap (λ (k : ℕ). read_word a.voice.now k (a.i + 1)) (omega arith)
