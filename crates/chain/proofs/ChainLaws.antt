-- Demand 3, proved: any list of nodes behind an origin is one node, and what is heard at its end.
use Prim.Native.Nat.{ℕ, ◌+◌, ◌-◌, ◌*◌, ◌/◌, ◌%◌, min, ◌≤◌}
use mathlib.Core.Path.{◌≡◌, refl, ap, ap₂, sym, ◌∙◌}
use mathlib.Core.Bool.{true, false}
use mathlib.Core.List.{List, [], ◌∷◌, ◌++◌, map}
use native.Mathlib.Nat.{add-zero, add_assoc, le_refl}
use native.Mathlib.Omega.{arith}
use lib.ListN.{length, drop}
use Rattle.refusals.specs.Refusals.{address_bad}
use Rattle.fcs.specs.Fcs.{fcs_octets}
use Rattle.coding.specs.Coding.{sample_bits, droppable_bits, reserved}
use Rattle.coding.proofs.CodingLaws.{d_le_s}
use Rattle.blocks.specs.Blocks.{field, samples, divided, samples_fit}
use Rattle.blocks.proofs.BlocksLaws.{read_field, read_dropped, divided_none}
use Rattle.frame.specs.Fields.{is_voice, field_m, field_c, stamp, more_bit, coding, sequence, noise}
use Rattle.frame.specs.Orders.{voice_refusal}
use Rattle.frame.proofs.FrameLaws.{Passes, passed, taken_voice}
use Rattle.onward.specs.Onward.{wait_of, stamp_after, dropped, onward_head, onward_field, framed, onward}
use Rattle.onward.proofs.OnwardLaws.{onward_two, onward_capped}
use Rattle.onward.proofs.SentLaws.{answered, whole_output}
use Rattle.node.specs.Node.{forward_refusal, forward_answer, forward_buffer}
use Rattle.node.proofs.ForwardLaws.{not_refused}
use Rattle.origin.specs.Burst.{sequence_sent, more_sent}
use Rattle.origin.specs.Send.{made_head, made, send_written, send_refusal, send_answer, send_buffer}
use Rattle.origin.proofs.SendLaws.{SendTaken, send_taken, written_field, sent_length, sent_M, sent_C, sent_voice, sent_stamp, sent_passes, sent_coding, sent_more, sent_sequence, sent_noise}
use Rattle.endpoint.specs.Read.{Heard}
use Rattle.endpoint.specs.Read.{samples_of, heard_of, read_answer}
use Rattle.chain.specs.Chain.{Origin, refused_at, sent, Node, refused_by, handed, chain, AllTake, AllReady, levels, waits, last_address, single, lost, what_is_heard}

-- ---- what the origin sends, and what is made of it on the way

-- the frame that the origin would send at level l, wait w and address a
abbrev at : Origin → ℕ → ℕ → ℕ → List ℕ
at o l w a = send_written o.sseq o.step o.coding o.noise o.samples l w a

-- the address that a frame was made with is of no account once it is sent on
heads : (l w a b t more seq n : ℕ) (xs : List ℕ) → onward_head l w b (made a t more seq n xs) ≡ onward_head l w b (made b t more seq n xs)
unfolding onward_head made made_head framed dropped
heads l w a b t more seq n xs =
    let e₁ : b / 128 * 4 + a / 128 * 4 % 4 ≡ b / 128 * 4 + b / 128 * 4 % 4 = omega arith in
    let e₂ : b % 128 * 2 + (a % 128 * 2 + 1) % 2 ≡ b % 128 * 2 + (b % 128 * 2 + 1) % 2 = omega arith in
    cc

made_address : (l w a b t more seq n : ℕ) (xs : List ℕ) → onward l w b (made a t more seq n xs) ≡ onward l w b (made b t more seq n xs)
unfolding onward
made_address l w a b t more seq n xs =
    ap₂ framed (heads l w a b t more seq n xs) (written_field a t more seq n xs l ∙ sym (written_field b t more seq n xs l))

-- a step on such a frame gives such a frame: levels and waits add, and the last address stands
step : (o : Origin) (l w a l' w' b : ℕ) → onward l' w' b (at o l w a) ≡ at o (l + l') (w + w') b
unfolding send_written
step o l w a l' w' b = onward_two l w a l' w' b _ ∙ made_address (l + l') (w + w') a b _ _ _ _ _

module _ (o : Origin) (known : reserved o.coding ≡ false) where
  abbrev size : ℕ → ℕ
  size l = 16 * (sample_bits o.coding - min (droppable_bits o.coding) l) + 10

  at_length : (l w a : ℕ) → length (at o l w a) ≡ size l
  at_length l w a = sent_length o.sseq o.step o.coding o.noise o.samples l w a

  at_passes : (l w a : ℕ) → address_bad a ≡ false → Passes (at o l w a)
  at_passes l w a inside = sent_passes o.sseq o.step o.coding o.noise o.samples l w a inside known

  -- a node that is ready takes it, and hands on what the origin would have sent
  node_takes : (n : Node) (l w a : ℕ) → address_bad a ≡ false → n.level ≤ 3 → address_bad n.address ≡ false → size (l + n.level) ≤ length n.out
      → (refused_by n (at o l w a) ≡ 0) × (handed n (at o l w a) ≡ at o (l + n.level) (w + wait_of n.from n.to) n.address)
  unfolding refused_by handed forward_answer forward_buffer
  node_takes n l w a inside low inside' room =
      let v : ℕ = wait_of n.from n.to in
      let g : List ℕ = at o l w a in
      let e : onward n.level v n.address g ≡ at o (l + n.level) (w + v) n.address = step o l w a n.level v n.address in
      let long : length (onward n.level v n.address g) ≡ size (l + n.level) = ap length e ∙ at_length (l + n.level) (w + v) n.address in
      let z : forward_refusal n.level v n.address g (length n.out) ≡ 0 =
      not_refused n.level v n.address g (length n.out)
      (record { low = low; inside = inside'; legal = passed g (at_passes l w a inside); roomy = omega (arith, long) }) in
      (answered _ (onward n.level v n.address g) ∙ z, whole_output _ (onward n.level v n.address g) n.out z ∙ e)

  -- so does each of a list of nodes, one behind the other
  chain_from : (ns : List Node) (so_far l w a W A : ℕ) → l ≡ o.level + so_far → address_bad a ≡ false → AllReady so_far ns (at o o.level W A)
      → AllTake ns (at o l w a) × (chain ns (at o l w a) ≡ at o (l + levels ns) (w + waits ns) (last_address a ns)) × (address_bad (last_address a ns) ≡ false)
  unfolding AllReady AllTake chain levels waits last_address
  chain_from [] so_far l w a W A e inside r = (tt, sym (ap₂ (λ (x y : ℕ). at o x y a) (add-zero l) (add-zero w)), inside)
  chain_from (n ∷ ns) so_far l w a W A e inside r =
      let v : ℕ = wait_of n.from n.to in
      let long : length (onward (so_far + n.level) 0 n.address (at o o.level W A)) ≡ size (o.level + (so_far + n.level)) =
      ap length (step o o.level W A (so_far + n.level) 0 n.address) ∙ at_length (o.level + (so_far + n.level)) (W + 0) n.address in
      let same : o.level + (so_far + n.level) ≡ l + n.level = omega arith in
      let room : size (l + n.level) ≤ length n.out = rw (long, same) at r.0.room in
      let t = node_takes n l w a inside r.0.low r.0.inside room in
      let k = chain_from ns (so_far + n.level) (l + n.level) (w + v) n.address W A (omega arith) r.0.inside r.1 in
      let sum : chain ns (at o (l + n.level) (w + v) n.address) ≡ at o (l + (n.level + levels ns)) (w + (v + waits ns)) (last_address n.address ns) =
      k.1 ∙ ap₂ (λ (x y : ℕ). at o x y (last_address n.address ns)) (add_assoc l n.level (levels ns)) (add_assoc w v (waits ns)) in
      ((t.0, rw t.1 k.0), ap (chain ns) t.1 ∙ sum, k.2)

-- the voice field of what arrives, read at the width that is left
at_heard : (o : Origin) (l w a k : ℕ) → k ≡ min (droppable_bits o.coding) l → samples_fit o.samples (sample_bits o.coding) ≡ true
    → samples (drop 8 (at o l w a)) (sample_bits o.coding - k) (sample_bits o.coding - k) ≡ map (divided k) o.samples
unfolding send_written onward onward_head framed
at_heard o l w a k e fit =
    let S : ℕ = sample_bits o.coding in
    let m : List ℕ = made a o.coding (more_sent o.step) (sequence_sent o.step o.sseq) o.noise o.samples in
    let f : onward_field l m ≡ field o.samples S (S - k) =
    written_field a o.coding (more_sent o.step) (sequence_sent o.step o.sseq) o.noise o.samples l ∙ ap (λ (d : ℕ). field o.samples S (S - d)) (sym e) in
    ap (λ (v : List ℕ). samples (v ++ fcs_octets (onward_head l w a m)) (S - k) (S - k)) f
    ∙ read_field o.samples (fcs_octets (onward_head l w a m)) S (S - k) (S - k) (S - k) (le_refl (S - k))
    ∙ read_dropped o.samples S k fit (omega (arith, d_le_s o.coding))

-- ---- demand 3

-- a wait that is stopped at 200 is read off the clock as it is
capped_wait : (w : ℕ) → wait_of 0 (min 200 w) ≡ min 200 w
capped_wait w = omega arith

module _ (o : Origin) (z : refused_at o ≡ 0) where
  not_refused_at : send_refusal o.sseq o.step o.coding o.noise o.samples o.level (wait_of o.from o.to) o.address (length o.out) ≡ 0
  unfolding refused_at send_answer
  not_refused_at = sym (answered _ (at o o.level (wait_of o.from o.to) o.address)) ∙ z

  pub taken : SendTaken o.sseq o.step o.coding o.noise o.samples o.level (wait_of o.from o.to) o.address (length o.out)
  taken =
      send_taken o.sseq o.step o.coding o.noise o.samples o.level (wait_of o.from o.to) o.address (length o.out) not_refused_at

  pub sent_is : sent o ≡ at o o.level (wait_of o.from o.to) o.address
  unfolding sent send_answer send_buffer
  sent_is = whole_output _ (at o o.level (wait_of o.from o.to) o.address) o.out not_refused_at

  module _ (ns : List Node) (ready : AllReady 0 ns (sent o)) where
    -- every node takes what it is handed, and what leaves the last is what the origin would have sent with all levels and waits, and to the last address
    along : AllTake ns (sent o)
        × (chain ns (sent o) ≡ at o (o.level + levels ns) (wait_of o.from o.to + waits ns) (last_address o.address ns))
        × (address_bad (last_address o.address ns) ≡ false)
    along =
        rw sent_is
        (chain_from o taken.known ns 0 o.level (wait_of o.from o.to) o.address (wait_of o.from o.to) o.address (omega arith) taken.inside (rw sent_is at ready))

    -- what leaves the last equals, octet for octet, what the single node sends: for any list of nodes, and any buffer with room
    pub demand_3 : (out : List ℕ) → length (onward (min 3 (levels ns)) 0 (last_address o.address ns) (sent o)) ≤ length out
        → AllTake ns (sent o) × (refused_by (single o ns out) (sent o) ≡ 0) × (chain ns (sent o) ≡ handed (single o ns out) (sent o))
    unfolding single
    demand_3 out room =
        let W : ℕ = wait_of o.from o.to in
        let a : ℕ = last_address o.address ns in
        let long : length (onward (min 3 (levels ns)) 0 a (sent o)) ≡ size o taken.known (o.level + min 3 (levels ns)) =
        ap (λ (f : List ℕ). length (onward (min 3 (levels ns)) 0 a f)) sent_is
        ∙ ap length (step o o.level W o.address (min 3 (levels ns)) 0 a) ∙ at_length o taken.known (o.level + min 3 (levels ns)) (W + 0) a in
        let t = node_takes o taken.known (single o ns out) o.level W o.address taken.inside (omega arith) along.2 (omega (arith, long)) in
        let capped : at o (o.level + levels ns) (W + waits ns) a ≡ at o (o.level + min 3 (levels ns)) (W + min 200 (waits ns)) a =
        sym (step o o.level W o.address (levels ns) (waits ns) a)
        ∙ onward_capped (levels ns) (waits ns) a (at o o.level W o.address)
        ∙ step o o.level W o.address (min 3 (levels ns)) (min 200 (waits ns)) a in
        let clock : at o (o.level + min 3 (levels ns)) (W + wait_of 0 (min 200 (waits ns))) a ≡ at o (o.level + min 3 (levels ns)) (W + min 200 (waits ns)) a =
        ap (λ (w : ℕ). at o (o.level + min 3 (levels ns)) (W + w) a) (capped_wait (waits ns)) in
        (along.0, ap (refused_by (single o ns out)) sent_is ∙ t.0, along.1 ∙ capped ∙ sym clock ∙ sym t.1 ∙ sym (ap (handed (single o ns out)) sent_is))

    -- what arrives: the origin's sequence, more bit, noise and coding, the stamp of all waits, and the blocks that are left
    pub arrives : let f = chain ns (sent o) in
        (sequence f ≡ sequence_sent o.step o.sseq) × (more_bit f ≡ more_sent o.step) × (noise f ≡ o.noise) × (coding f ≡ o.coding)
        × (stamp f ≡ stamp_after 0 (wait_of o.from o.to + waits ns)) × (field_m f - field_c f ≡ lost o ns)
        × (length f ≡ 16 * (sample_bits o.coding - lost o ns) + 10)
    arrives =
        let l : ℕ = o.level + levels ns in
        let w : ℕ = wait_of o.from o.to + waits ns in
        let a : ℕ = last_address o.address ns in
        rw along.1 (
          sent_sequence o.sseq o.step o.coding o.noise o.samples l w a taken.in_record taken.quiet,
          sent_more o.sseq o.step o.coding o.noise o.samples l w a taken.known,
          sent_noise o.sseq o.step o.coding o.noise o.samples l w a taken.quiet,
          sent_coding o.sseq o.step o.coding o.noise o.samples l w a taken.known,
          sent_stamp o.sseq o.step o.coding o.noise o.samples l w a,
          omega (arith, sent_M o.sseq o.step o.coding o.noise o.samples l w a, sent_C o.sseq o.step o.coding o.noise o.samples l w a),
          at_length o taken.known l w a,
        )

    -- what is heard: the originals divided by 2 ^ k, k the bits lost, and the width that is left
    pub heard : read_answer (chain ns (sent o)) ≡ what_is_heard o ns
    unfolding read_answer heard_of samples_of
    heard =
        let f : List ℕ = chain ns (sent o) in
        let S : ℕ = sample_bits o.coding in
        let k : ℕ = lost o ns in
        let p : Passes f = rw along.1 (at_passes o taken.known (o.level + levels ns) (wait_of o.from o.to + waits ns) (last_address o.address ns) along.2) in
        let v : is_voice f ≡ true =
        ap is_voice along.1 ∙ sent_voice o.sseq o.step o.coding o.noise o.samples (o.level + levels ns) (wait_of o.from o.to + waits ns) (last_address o.address ns) in
        let none : voice_refusal f ≡ 0 = taken_voice f p v in
        let es : sample_bits (coding f) ≡ S = ap sample_bits arrives.3 in
        let ek : field_m f - field_c f ≡ k = arrives.5 in
        let voice : samples (drop 8 f) (S - k) (S - k) ≡ map (divided k) o.samples =
        ap (λ (g : List ℕ). samples (drop 8 g) (S - k) (S - k)) along.1
        ∙ at_heard o (o.level + levels ns) (wait_of o.from o.to + waits ns) (last_address o.address ns) k refl taken.fit in
        rw (none, es, ek) (ap (λ (l : List ℕ). record { refusal = 0; s = S; dropped = k; width = S - k; samples = l }) voice)

-- with no node it is the first frame itself
pub no_node : (f : List ℕ) → chain [] f ≡ f
unfolding chain
no_node f = refl

-- read-back: where nothing is dropped, the samples read are the samples packed
pub read_back : (o : Origin) (ns : List Node) → refused_at o ≡ 0 → AllReady 0 ns (sent o) → o.level ≡ 0 → levels ns ≡ 0
    → (read_answer (chain ns (sent o))).samples ≡ o.samples
read_back o ns z ready none all =
    let k : lost o ns ≡ 0 = omega arith in
    ap (λ (h : Heard). h.samples) (heard o z ns ready) ∙ ap (λ (n : ℕ). map (divided n) o.samples) k ∙ divided_none o.samples
