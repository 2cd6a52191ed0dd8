-- What an origin sends is a frame that a line takes: 10 to 490 octets, each below 256.
use Prim.Native.Nat.{ℕ, zero, suc, ◌+◌, ◌-◌, ◌*◌, min, ◌<◌}
use mathlib.Core.Path.{◌≡◌, ap, ◌∙◌}
use mathlib.Core.List.{List, [], ◌∷◌, ◌++◌}
use native.Mathlib.Omega.{arith}
use lib.Dec.{lit<}
use lib.ListN.{length}
use borrow.Author.Tests.{le-ltb}
use Rattle.octets.specs.Octets.{tab}
use Rattle.refusals.proofs.RefusalLaws.{in_range}
use Rattle.fcs.specs.Fcs.{fcs_of, fcs_octets}
use Rattle.coding.specs.Coding.{sample_bits, droppable_bits}
use Rattle.coding.proofs.CodingLaws.{s_le_8, d_le_3, not_reserved}
use Rattle.blocks.specs.Blocks.{block_octet, block, weight, field}
use Rattle.blocks.proofs.BlocksLaws.{gather_lt}
use Rattle.onward.specs.Onward.{wait_of, stamp_after, onward_head, onward_field, framed, onward}
use Rattle.origin.specs.Burst.{sequence_sent, more_sent}
use Rattle.origin.proofs.BurstLaws.{sequence_le, more_le}
use Rattle.origin.specs.Send.{made_head, made, send_written}
use Rattle.origin.proofs.SendLaws.{written_field, sent_length}
use Rattle.chain.specs.Chain.{Origin, refused_at, sent}
use Rattle.chain.proofs.ChainLaws.{taken, sent_is}
use Rattle.wire.specs.Wire.{Each, Frame}
use Rattle.wire.proofs.EachLaws.{each_append, each_at}

abbrev Octets : List ℕ → Type 0
Octets = Each (λ x. x < 256)

tabbed : (f : ℕ → ℕ) (n : ℕ) → ((i : ℕ) → f i < 256) → Octets (tab f n)
unfolding tab
tabbed f zero h = tt
tabbed f (suc n) h = each_append (λ x. x < 256) (tab f n) (f n ∷ []) (tabbed f n h) (h n, tt)

voice : (xs : List ℕ) (S n : ℕ) → Octets (field xs S n)
unfolding field block block_octet
voice xs S zero = tt
voice xs S (suc n) =
    each_append (λ x. x < 256) (field xs S n) (block xs (weight S n)) (voice xs S n)
    (tabbed (block_octet xs (weight S n)) 16 (λ i. gather_lt xs (weight S n) (8 * i) 8))

check : (l : List ℕ) → Octets (fcs_octets l)
unfolding fcs_octets fcs_of
check l = (omega arith, (omega arith, tt))

module _ (o : Origin) (z : refused_at o ≡ 0) where
  head : Octets (onward_head o.level (wait_of o.from o.to) o.address (made o.address o.coding (more_sent o.step) (sequence_sent o.step o.sseq) o.noise o.samples))
  unfolding onward_head made made_head framed stamp_after
  head =
      let t = taken o z in
      let a = in_range o.address t.inside in
      let d = d_le_3 o.coding in
      let k = (not_reserved o.coding t.known).1 in
      let m = more_le o.step in
      let s = sequence_le o.step o.sseq t.in_record in
      let q = t.quiet in
      (omega arith, (omega arith, (lit< tt, (lit< tt, (omega arith, (omega arith, (omega arith, (omega arith, tt))))))))

  -- the frame sent: octets 1 to 8, the voice field and the check
  octets : Octets (sent o)
  unfolding send_written onward framed
  octets =
      let a : ℕ = o.address in
      let f : List ℕ = made a o.coding (more_sent o.step) (sequence_sent o.step o.sseq) o.noise o.samples in
      let h : List ℕ = onward_head o.level (wait_of o.from o.to) a f in
      let v : Octets (onward_field o.level f) =
      rw (written_field a o.coding (more_sent o.step) (sequence_sent o.step o.sseq) o.noise o.samples o.level) (voice o.samples (sample_bits o.coding) _) in
      rw (sent_is o z) (each_append (λ x. x < 256) (h ++ onward_field o.level f) (fcs_octets h) (each_append (λ x. x < 256) h (onward_field o.level f) head v) (check h))

  pub sent_frame : Frame (sent o)
  sent_frame =
      let n : length (sent o) ≡ 16 * (sample_bits o.coding - min (droppable_bits o.coding) o.level) + 10 =
      ap length (sent_is o z) ∙ sent_length o.sseq o.step o.coding o.noise o.samples o.level (wait_of o.from o.to) o.address in
      let s = s_le_8 o.coding in
      record {
        size = rw (le-ltb (length (sent o)) 10 (omega arith), le-ltb 490 (length (sent o)) (omega arith));
        octet = each_at (λ x. x < 256) (sent o) 0 octets (lit< tt);
      }
