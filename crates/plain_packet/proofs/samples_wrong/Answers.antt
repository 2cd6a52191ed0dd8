-- `samples_wrong` meets its contract: a number of S bits is below 2 to the S.
use Rattle.std.proofs.Common.{◌≡◌, ◌^◌, length, ap, ◌∙◌, arith}
use borrow.Author.Tests.{eq-eqb}
use lib.Dec.{lit<}
use lib.Pow.{shl_exact}
use native.Mathlib.Nat.{one-mul}
use Rattle.plain_packet.specs.Packet.{too_large, samples_wrong}
use Rattle.plain_packet.proofs.PacketLaws.{large_is}
use Rattle.plain_packet.proofs.samples_wrong.Goals as goal

pub returns-else-samples-ne128 : goal.returns-else-samples-ne128
unfolding samples_wrong
returns-else-samples-ne128 c =
    let xs = c.args.samples.now in
    let n : length xs ≡ 128 = omega arith in
    rw (eq-eqb _ _ n) (c.too_large.ensures ∙ large_is _ xs ∙ ap (λ m. too_large m xs) (shl_exact 1 c.args.s 64 (lit< tt) (omega arith) ∙ one-mul (2 ^ c.args.s)))
