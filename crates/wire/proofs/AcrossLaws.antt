-- Request A4 joined to the layers above: what origins send over a line is heard at its other end.
use Prim.Native.Nat.{ℕ, ◌≤◌}
use mathlib.Core.Path.{◌≡◌, refl, sym, ap, ◌∙◌}
use mathlib.Core.List.{List, [], map, map-map}
use lib.ListN.{length, length-map}
use Rattle.endpoint.specs.Read.{read_answer}
use Rattle.chain.specs.Chain.{Origin, refused_at, sent, AllReady, levels}
use Rattle.chain.proofs.ChainLaws.{heard, no_node, read_back as samples-back}
use Rattle.wire.specs.Wire.{Each, Frame, Frames, Room, Call, said, whole}
use Rattle.wire.specs.Across.{crossed, hears, given}
use Rattle.wire.proofs.EachLaws.{each_map, map_each}
use Rattle.wire.proofs.OctetLaws.{sent_frame}
use Rattle.wire.proofs.WireLaws.{read_back}

-- with no node on the way
heard_at : (o : Origin) → refused_at o ≡ 0 → read_answer (sent o) ≡ given o
unfolding AllReady
heard_at o z = sym (ap read_answer (no_node (sent o))) ∙ heard o z [] tt

samples_at : (o : Origin) → refused_at o ≡ 0 → o.level ≡ 0 → (read_answer (sent o)).samples ≡ o.samples
unfolding AllReady levels
samples_at o z e = sym (ap (λ (f : List ℕ). (read_answer f).samples) (no_node (sent o))) ∙ samples-back o [] z tt e refl

module _ (os : List Origin) (buffer out : List ℕ) (n : ℕ) (room : Room buffer 0 (map sent os)) (enough : 490 ≤ length out) where
  -- whatever is made of the octets of each call
  by_octets : {B : Type 0} (g : List ℕ → B) (k : Origin → B) (P : Origin → Type 0) → ((o : Origin) → P o → refused_at o ≡ 0)
      → ((o : Origin) → P o → g (sent o) ≡ k o) → Each P os → map (λ (c : Call). g c.heard) (crossed os n buffer out) ≡ map k os
  by_octets g k P z e p =
      let fs : List (List ℕ) = map sent os in
      let cs : List Call = crossed os n buffer out in
      let s : Frames fs = each_map P Frame sent (λ o q. sent_frame o (z o q)) os p in
      let h : map said cs ≡ map whole fs = rw (length-map os sent) at (read_back fs buffer out n s room enough) in
      sym (map-map (λ (x : ℕ × List ℕ). g x.1) said cs)
      ∙ ap (map (λ (x : ℕ × List ℕ). g x.1)) h
      ∙ map-map (λ (x : ℕ × List ℕ). g x.1) whole fs
      ∙ map-map g sent os
      ∙ map_each P (λ o. g (sent o)) k e os p

  -- what any list of calls that are not refused sent is heard, each in its turn and nothing else
  pub across : Each (λ o. refused_at o ≡ 0) os → map hears (crossed os n buffer out) ≡ map given os
  across = by_octets read_answer given (λ o. refused_at o ≡ 0) (λ o z. z) heard_at

  -- at level 0 the samples heard are the samples
  pub across_whole : Each (λ o. (refused_at o ≡ 0) × (o.level ≡ 0)) os
      → map (λ (c : Call). (hears c).samples) (crossed os n buffer out) ≡ map (λ (o : Origin). o.samples) os
  across_whole =
      by_octets (λ (f : List ℕ). (read_answer f).samples) (λ o. o.samples) (λ o. (refused_at o ≡ 0) × (o.level ≡ 0)) (λ o p. p.0) (λ o p. samples_at o p.0 p.1)
