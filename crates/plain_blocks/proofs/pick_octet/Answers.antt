-- `pick_octet` meets its contract: each bit picked.
use Rattle.std.proofs.Common.{rules, ◌≡◌, ◌+◌, ◌-◌, ◌*◌, ℕ, get_or, ap, ◌∙◌}
use Rattle.octets.specs.Octets.{tab}
use Rattle.plain_check.specs.Bits.{bit, number}
use Rattle.plain_blocks.specs.Figure7.{picked_octet}
use Rattle.plain_blocks.proofs.Figure7Laws.{picked_bit, octet_bits, eight_below}
use Rattle.plain_blocks.proofs.MadeLaws.{made_tab}
use Rattle.plain_blocks.proofs.pick_octet.Goals as goal

pub octet_of-requires : goal.octet_of-requires
octet_of-requires c =
    let a = c.args in
    let bits = c.from_fn-bits in
    let whole : bits.result ≡ tab (picked_bit a.s a.samples.now a.b a.j) 8 =
    made_tab (λ (i : ℕ). bit (a.s - a.b) (get_or a.samples.now (8 * a.j + i) 0)) (λ i y q k. search rules) bits.result 8 bits.ensures.items ∙ octet_bits a.s a.samples.now a.b a.j in
    (bits.ensures.items.long, rw whole (eight_below a.s a.samples.now a.b a.j))

pub returns : goal.returns
unfolding picked_octet
returns c =
    let a = c.args in
    let bits = c.from_fn-bits in
    c.octet_of.ensures
    ∙ ap number (made_tab (λ (i : ℕ). bit (a.s - a.b) (get_or a.samples.now (8 * a.j + i) 0)) (λ i y q k. search rules) bits.result 8 bits.ensures.items ∙ octet_bits a.s a.samples.now a.b a.j)
