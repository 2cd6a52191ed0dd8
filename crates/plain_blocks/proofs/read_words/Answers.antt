-- `read_words` meets its contract: each word read.
use Rattle.std.proofs.Common.{rules, ◌+◌, ℕ}
use Rattle.plain_blocks.specs.Figure7.{read_word, read_words}
use Rattle.plain_blocks.proofs.MadeLaws.{made_tab}
use Rattle.plain_blocks.proofs.read_words.Goals as goal

pub returns : goal.returns
unfolding read_words
returns c =
    let a = c.args in
    made_tab (λ (i : ℕ). read_word a.voice.now a.width (i + 1)) (λ i y q k. search rules) c.from_fn.result 128 c.from_fn.ensures.items
