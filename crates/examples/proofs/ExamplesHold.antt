-- The examples marked P hold, every row of the table. A kind of row has one law, whose premises on numbers antt computes for each row.
use Prim.Native.Nat.{ℕ, zero, suc, ◌+◌, ◌-◌, ◌*◌, ◌/◌, ◌%◌, min, max, ◌≤◌, ◌<◌}
use mathlib.Core.Path.{◌≡◌, refl, ap, sym, subst, ◌∙◌}
use mathlib.Core.Bool.{Bool, true, false, not, ◌&&◌}
use mathlib.Core.List.{List, [], ◌∷◌, ◌++◌, append_assoc}
use native.Mathlib.Omega.{arith}
use lib.Dec.{ltb, eqb}
use lib.ListN.{length, get_or, take, drop, get_or-append}
use lib.Seq.{take_at, take-take, get_or-take, get_or-append-add}
use borrow.Author.Tests.{ltb-true, ltb-false, lt-ltb, le-ltb}
use Rattle.octets.specs.Octets.{octet}
use Rattle.refusals.specs.Refusals.{if_taken, address_bad}
use Rattle.refusals.proofs.RefusalLaws.{if_taken_lem}
use Rattle.fcs.specs.Fcs.{fcs_octets}
use Rattle.coding.specs.Coding.{row, sample_bits, droppable_bits, reserved, frame_length}
use Rattle.blocks.specs.Blocks.{field, gather, block_octet, weight, samples_fit, all_below}
use Rattle.blocks.proofs.BlocksLaws.{length_field, field_at}
use Rattle.frame.specs.Fields.{stamp, more_bit, sequence, noise}
use Rattle.frame.specs.Orders.{taken_refusal, voice_refusal, signal_refusal as readerRefusal}
use Rattle.frame.specs.Calls.{Taken, taken_answer}
use Rattle.frame.proofs.FrameLaws.{Passes, passes, passed, link_passed, layout_passed}
use Rattle.onward.specs.Onward.{wait_of, stamp_after, dropped, onward_head, onward_field, framed, onward}
use Rattle.onward.specs.Sent.{Sent, sent_answer, sent_buffer}
use Rattle.onward.proofs.OnwardLaws.{onward_length, closed}
use Rattle.onward.proofs.SentLaws.{answered, whole_output}
use Rattle.node.specs.Node.{forward_refusal, forward_answer, forward_buffer}
use Rattle.node.proofs.ForwardLaws.{not_refused}
use Rattle.origin.specs.declared.Step.{Step}
use Rattle.origin.specs.declared.Step.TheVariants.{Start}
use Rattle.origin.specs.Burst.{more_sent, sequence_sent}
use Rattle.origin.specs.Send.{made_head, made, send_written, send_refusal, send_answer, send_buffer}
use Rattle.origin.specs.Signal.{signal_head, signal_written, signal_refusal, signal_answer, signal_buffer}
use Rattle.origin.proofs.SendLaws.{taken_send, made_passes, written_field, written_length}
use Rattle.origin.proofs.SignalLaws.{taken_signal, signal_length}
use Rattle.playout.specs.declared.Endpoint.{Endpoint}
use Rattle.playout.specs.Counts.{missing_between}
use Rattle.playout.specs.Play.{fresh_record, clock_limit, record_bad, refusal14, in_turn, hold, due_at, play_refusal, scheduled_at, after_scheduled}
use Rattle.endpoint.specs.Read.{Heard, heard_of, read_answer}
use Rattle.endpoint.specs.Arrival.{frame_decision, arrival_by, arrival_of}
use Rattle.endpoint.specs.Signal.{SignalHeard, signal_order, signal_answer as signalHeard}
use Rattle.playout.proofs.PlayLaws.{in_range, fresh_ranged, decided_scheduled, decided_number, by_decision}
use Rattle.examples.specs.Examples.{Arrives, first, three, table, sent, start_answer, start_frame, then_zeros, LegalSend, LegalVoice, LegalSignal, Arriving, LateOn, holds, AllHold, none, ◌also◌}
use Rattle.examples.specs.Examples.{starts, then_level, packs, addresses, no_address, waits, stamps, schedules, next, plays, late, late_ever, signals}

-- ---- the number that a call answers is its refusal

number_is : {A : Type 0} (number : A → ℕ) (n : ℕ) (done refused : A) → number done ≡ 0 → number refused ≡ n → number (if_taken n done refused) ≡ n
number_is number zero done refused d r = d
number_is number (suc n) done refused d r = r

node_passes : (f : List ℕ) → (taken_answer f).refusal ≡ 0 → Passes f
unfolding taken_answer
node_passes f h = passes f (sym (number_is (λ (a : Taken). a.refusal) (taken_refusal f) _ _ refl refl) ∙ h)

reader_passes : (f : List ℕ) → (read_answer f).refusal ≡ 0 → voice_refusal f ≡ 0
unfolding read_answer heard_of
reader_passes f h = sym (number_is (λ (a : Heard). a.refusal) (voice_refusal f) _ _ refl refl) ∙ h

heard_number : (b : ℕ) (f : List ℕ) → (signalHeard b f).refusal ≡ signal_order b f
unfolding signalHeard
heard_number b f = number_is (λ (a : SignalHeard). a.refusal) (signal_order b f) _ _ refl refl

taken_is : {a : Sent} {n : ℕ} → a ≡ sent 0 n → a.refusal ≡ 0
taken_is e = ap (λ (a : Sent). a.refusal) e

-- ---- what a call that refuses nothing leaves of the frame that it wrote

-- an octet of the first eight
head_octet : (b h : List ℕ) (n : ℕ) → take 8 b ≡ h → n < 8 → get_or b n 0 ≡ get_or h n 0
head_octet b h n e l = sym (get_or-take 8 b n 0 l) ∙ ap (λ (x : List ℕ). get_or x n 0) e

-- octets 1 and 2 where the bits that are not the address's are as a writer sets them
address_octets : (level wait addr : ℕ) (f b : List ℕ) → take 8 b ≡ onward_head level wait addr f → octet 1 f % 4 ≡ 0 → octet 2 f % 2 ≡ 1
    → take 2 b ≡ addr / 128 * 4 ∷ (addr % 128 * 2 + 1) ∷ []
unfolding onward_head
address_octets level wait addr f b e h₁ h₂ =
    let e₁ : addr / 128 * 4 + octet 1 f % 4 ≡ addr / 128 * 4 = omega arith in
    let e₂ : addr % 128 * 2 + octet 2 f % 2 ≡ addr % 128 * 2 + 1 = omega arith in
    sym (take-take 2 8 b (omega arith)) ∙ ap (take 2) e ∙ cc

module _ (q : ℕ) (h v out : List ℕ) (z : q ≡ 0) (eight : length h ≡ 8) where
  laid_out : sent_buffer q (framed h v) out ≡ h ++ (v ++ (fcs_octets h ++ drop (length (framed h v)) out))
  unfolding sent_buffer framed
  laid_out = if_taken_lem q _ _ z ∙ simp append_assoc

  head_is : take 8 (sent_buffer q (framed h v) out) ≡ h
  head_is = rw laid_out (take_at h _ 8 eight)

  voice_is : (n : ℕ) → n < length v → get_or (sent_buffer q (framed h v) out) (8 + n) 0 ≡ get_or v n 0
  voice_is n l =
      rw laid_out
      (ap (λ (k : ℕ). get_or (h ++ (v ++ (fcs_octets h ++ drop (length (framed h v)) out))) (k + n) 0) (sym eight)
      ∙ get_or-append-add h _ n 0
      ∙ get_or-append v _ 0 n l)

-- ---- origin

module _ (sseq : ℕ) (step : Step) (t n : ℕ) (samples : List ℕ) (level wait addr : ℕ) (out : List ℕ) (k : LegalSend sseq step n level) (v : LegalVoice t samples) where
  abbrev written : List ℕ
  written = send_written sseq step t n samples level wait addr

  abbrev sent_head : List ℕ
  sent_head = onward_head level wait addr (made addr t (more_sent step) (sequence_sent step sseq) n samples)

  size_is : length written ≡ frame_length t (min (droppable_bits t) level)
  size_is = written_length sseq step t n samples level wait addr v.known

  -- a buffer that has room for the frame before anything is dropped
  fits_whole : frame_length t 0 ≤ length out → length written ≤ length out
  fits_whole room = rw size_is (omega (arith, shorter))
    where
      shorter : frame_length t (min (droppable_bits t) level) ≤ frame_length t 0
      shorter = rw v.known (omega arith)

  module _ (inside : address_bad addr ≡ false) (room : length written ≤ length out) where
    send_zero : send_refusal sseq step t n samples level wait addr (length out) ≡ 0
    send_zero =
        taken_send sseq step t n samples level wait addr (length out)
        (record { in_record = k.ranged; in_turn_lem = k.in_turn_lem; known = v.known; quiet = k.quiet; fit = v.fit; low = k.low; inside = inside; enough = room })

    send_done : send_answer sseq step t n samples level wait addr out ≡ sent 0 (length written)
    unfolding send_answer sent_answer
    send_done = if_taken_lem _ _ _ send_zero

    send_head : take 8 (send_buffer sseq step t n samples level wait addr out) ≡ sent_head
    unfolding send_buffer send_written onward onward_head
    send_head = head_is _ sent_head _ out send_zero refl

    -- octet j, from 0, of block b, of those that are kept
    send_block : (b j : ℕ) → b < sample_bits t - min (droppable_bits t) level → j < 16
        → get_or (send_buffer sseq step t n samples level wait addr out) (8 + (16 * b + j)) 0 ≡ block_octet samples (weight (sample_bits t) b) j
    unfolding send_buffer send_written onward onward_head
    send_block b j l i =
        let f : List ℕ = made addr t (more_sent step) (sequence_sent step sseq) n samples in
        let kept : ℕ = sample_bits t - min (droppable_bits t) level in
        let e : onward_field level f ≡ field samples (sample_bits t) kept = written_field addr t (more_sent step) (sequence_sent step sseq) n samples level in
        let many : length (onward_field level f) ≡ 16 * kept = ap length e ∙ length_field samples (sample_bits t) kept in
        voice_is _ sent_head (onward_field level f) out send_zero refl (16 * b + j) (omega arith)
        ∙ ap (λ (v : List ℕ). get_or v (16 * b + j) 0) e
        ∙ field_at samples (sample_bits t) kept b j l i

-- ---- the signalling writer

module _ (bits na wait addr : ℕ) (out : List ℕ) (k : LegalSignal bits na) (inside : address_bad addr ≡ false) (room : 10 ≤ length out) where
  signal_zero : signal_refusal bits na wait addr (length out) ≡ 0
  signal_zero = taken_signal bits na wait addr (length out) (record { four = k.four; one = k.one; inside = inside; enough = room })

  signal_done : signal_answer bits na wait addr out ≡ sent 0 10
  unfolding signal_answer sent_answer
  signal_done = if_taken_lem _ _ _ signal_zero ∙ ap (sent 0) (signal_length bits na wait addr)

  signal_head_lem : take 8 (signal_buffer bits na wait addr out) ≡ onward_head 0 wait addr (framed (signal_head addr na bits) [])
  unfolding signal_buffer signal_written onward onward_head
  signal_head_lem = head_is _ (onward_head 0 wait addr (framed (signal_head addr na bits) [])) _ out signal_zero refl

-- ---- node

module _ (level wait addr : ℕ) (f out : List ℕ) (low : level ≤ 3) (inside : address_bad addr ≡ false) (p : Passes f) where
  -- a buffer that has room for the frame before anything is dropped
  fits_as_it_came : length f ≤ length out → length (onward level wait addr f) ≤ length out
  fits_as_it_came room = omega (arith, onward_length level wait addr f, p.linked.long)

  module _ (room : length (onward level wait addr f) ≤ length out) where
    forward_zero : forward_refusal level wait addr f (length out) ≡ 0
    forward_zero = not_refused level wait addr f (length out) (record { low = low; inside = inside; legal = passed f p; roomy = room })

    forward_done : forward_answer level wait addr f out ≡ sent 0 (length (onward level wait addr f))
    unfolding forward_answer sent_answer
    forward_done = if_taken_lem _ _ _ forward_zero

    forward_head : take 8 (forward_buffer level wait addr f out) ≡ onward_head level wait addr f
    unfolding forward_buffer onward onward_head
    forward_head = head_is _ (onward_head level wait addr f) _ out forward_zero refl

-- ---- endpoint

-- frames one after another, each of which the record schedules
arriving_on : (e : Endpoint) (a : Arrives) (rest : List Arrives) (P : Endpoint → Type 0)
    → play_refusal e a.clock 0 a.stamp a.sequence ≡ 0
    → due_at e a.clock a.stamp a.sequence ≡ a.due
    → ((n : ℕ) → n ≤ 15 → Arriving (after_scheduled e a.clock a.sequence a.more n a.due) rest P)
    → Arriving e (a ∷ rest) P
unfolding Arriving arrival_of arrival_by frame_decision
arriving_on e a rest P z d k f read q s m =
    let given : voice_refusal f ≡ 0 = reader_passes f read in
    let t : frame_decision e f a.clock ≡ scheduled_at e a.clock a.sequence a.more (noise f) a.due =
    rw (given, s, q, m) (decided_scheduled e a.clock 0 a.stamp a.sequence a.more (noise f) z ∙ ap (scheduled_at e a.clock a.sequence a.more (noise f)) d) in
    (ap (λ x. x.refusal) t, ap (λ x. x.due) t, subst (λ (x : Endpoint). Arriving x rest P) (sym (ap (λ x. x.after) t)) (k (noise f) (omega arith)))

arrived : (e : Endpoint) (P : Endpoint → Type 0) → P e → Arriving e [] P
unfolding Arriving
arrived e P h = h

-- the record after the three frames of the table
abbrev after_three : ℕ → Endpoint
after_three n = record { buildout = 100; rseq = 4; lastclock = 1050; end = 1146; mlast = 1; lastnoise = n; scheduled = 3; late = 0; missing = 1 }

three_arrive : (P : Endpoint → Type 0) → ((n : ℕ) → n ≤ 15 → P (after_three n)) → Arriving (fresh_record 100) three P
unfolding play_refusal record_bad in_turn due_at missing_between
three_arrive P k =
    arriving_on (fresh_record 100) _ _ P refl refl
    (λ n h. arriving_on _ _ _ P (simp (le-ltb 15 n h)) refl
    (λ n h. arriving_on _ _ _ P (simp (le-ltb 15 n h)) refl (λ n h. arrived (after_three n) P (k n h))))

-- the next frame, judged by its stamp and sequence, whatever its more bit and noise
module _ (e : Endpoint) (f : List ℕ) (clock refusal : ℕ) (read : (read_answer f).refusal ≡ 0) where
  arrival_number : play_refusal e clock 0 (stamp f) (sequence f) ≡ refusal → (arrival_of e f clock).answer.refusal ≡ refusal
  unfolding arrival_of arrival_by frame_decision
  arrival_number h =
      let given : voice_refusal f ≡ 0 = reader_passes f read in
      rw given (decided_number e clock 0 (stamp f) (sequence f) (more_bit f) (noise f) ∙ h)

  arrival_due : (due : ℕ) → play_refusal e clock 0 (stamp f) (sequence f) ≡ refusal → if_taken refusal (due_at e clock (stamp f) (sequence f)) 0 ≡ due
      → (arrival_of e f clock).answer.due ≡ due
  unfolding arrival_of arrival_by frame_decision
  arrival_due due h d =
      let given : voice_refusal f ≡ 0 = reader_passes f read in
      rw given
      (by_decision e clock 0 (stamp f) (sequence f) (more_bit f) (noise f)
      (λ x. x.due ≡ if_taken (play_refusal e clock 0 (stamp f) (sequence f)) (due_at e clock (stamp f) (sequence f)) 0)
      (λ z. rw z)
      (λ n z. rw (← z))
      ∙ rw h d)

-- a stamp above B
module _ (e : Endpoint) (s : ℕ) (ranged : refusal14 e ≡ 0) (above : e.buildout < s) where
  late_on : LateOn e s
  unfolding LateOn play_refusal signal_order readerRefusal
  late_on = (
    λ f clock z read h.
        let above : e.buildout < stamp f = omega arith in
        arrival_number e f clock 17 read (simp (ranged, z, lt-ltb e.buildout (stamp f) above)),
    λ f taken v h.
        let p = node_passes f taken in
        let above : e.buildout < stamp f = omega arith in
        let low : e.buildout ≤ 199 = (in_range e ranged).buildout_low in
        heard_number e.buildout f
        ∙ simp (le-ltb 199 e.buildout low, link_passed f p.linked, layout_passed f p.laid, v, lt-ltb e.buildout (stamp f) above),
  )

fresh_plays : (b s clock seq : ℕ) → b ≤ 199 → s ≤ b → clock ≤ clock_limit → play_refusal (fresh_record b) clock 0 s seq ≡ 0
unfolding play_refusal due_at in_turn
fresh_plays b s clock seq hb hs hc =
    simp (
      fresh_ranged b hb,
      le-ltb clock 0 (omega arith),
      le-ltb clock_limit clock hc,
      le-ltb b s hs,
      alone (eqb seq 0),
      le-ltb (clock + 439) (max (clock + hold b s) 0) (omega arith),
    )
  where
    alone : (t : Bool) → (not t && t) ≡ false
    alone true = refl
    alone false = refl

-- ---- the rows

abbrev first_frame : List ℕ → List ℕ
first_frame samples = send_written 0 Start first.coding first.noise samples first.level first.wait first.address

abbrev first_size : ℕ
first_size = frame_length first.coding (min (droppable_bits first.coding) first.level)

starts_hold : (octets : List ℕ) (size : ℕ) → first_size ≡ size
    → ((samples : List ℕ) → onward_head first.level first.wait first.address (made first.address first.coding 1 0 first.noise samples) ≡ octets)
    → holds (starts first octets size)
unfolding holds row
starts_hold octets size es eo samples out fit room =
    let k : LegalSend 0 Start first.noise first.level = record { ranged = omega arith; in_turn_lem = refl; quiet = omega arith; low = omega arith } in
    let v : LegalVoice first.coding samples = record { known = refl; fit = fit } in
    let e : length (first_frame samples) ≡ size = size_is 0 Start first.coding first.noise samples first.level first.wait first.address out k v ∙ es in
    let r : length (first_frame samples) ≤ length out = omega arith in (
      send_done 0 Start first.coding first.noise samples first.level first.wait first.address out k v refl r ∙ ap (sent 0) e,
      send_head 0 Start first.coding first.noise samples first.level first.wait first.address out k v refl r ∙ eo samples,
    )

first_passes : (samples : List ℕ) → Passes (first_frame samples)
unfolding send_written row
first_passes samples =
    closed first.level first.wait first.address _
    (made_passes first.address first.coding 1 0 first.noise samples refl refl)
    refl

first_is : (samples out : List ℕ) → (start_answer first samples out).refusal ≡ 0 → start_frame first samples out ≡ first_frame samples
unfolding send_answer send_buffer
first_is samples out h = whole_output _ (first_frame samples) out (sym (answered _ (first_frame samples)) ∙ h)

then_hold : (level octet5 size : ℕ) → ltb 3 level ≡ false
    → ((samples : List ℕ) → octet 5 (first_frame samples) - dropped level (first_frame samples) ≡ octet5)
    → ((samples : List ℕ) → 10 + (first_size - 10 - 16 * dropped level (first_frame samples)) ≡ size)
    → holds (then_level first level octet5 size)
unfolding holds row onward_head
then_hold level octet5 size h₃ e₅ es samples out h wait addr out' inside room =
    let low = ltb-false 3 level h₃ in
    let p = first_passes samples in
    let w : List ℕ = first_frame samples in
    let n : length (onward level wait addr w) ≡ size =
    onward_length level wait addr w ∙ rw (written_length 0 Start first.coding first.noise samples first.level first.wait first.address refl) (es samples) in
    let r : length (onward level wait addr w) ≤ length out' = omega arith in
    rw (first_is samples out h) (
      forward_done level wait addr w out' low inside p r ∙ ap (sent 0) n,
      head_octet (forward_buffer level wait addr w out') (onward_head level wait addr w) 4 (forward_head level wait addr w out' low inside p r) (omega arith) ∙ e₅ samples,
    )

packs_hold : (coding : ℕ) (samples : List ℕ) (octet9 octet25 : ℕ) → reserved coding ≡ false → samples_fit (then_zeros samples) (sample_bits coding) ≡ true
    → droppable_bits coding ≡ 0 → ltb (sample_bits coding) 2 ≡ false
    → block_octet (then_zeros samples) (weight (sample_bits coding) 0) 0 ≡ octet9
    → block_octet (then_zeros samples) (weight (sample_bits coding) 1) 0 ≡ octet25
    → holds (packs coding samples octet9 octet25)
unfolding holds
packs_hold coding samples octet9 octet25 known fit d h₂ e₉ e₂₅ sseq step noise level wait addr out k inside room =
    let two : 2 ≤ sample_bits coding = ltb-false (sample_bits coding) 2 h₂ in
    let xs : List ℕ = then_zeros samples in
    let v : LegalVoice coding (then_zeros samples) = record { known = known; fit = fit } in
    let r = fits_whole sseq step coding noise xs level wait addr out k v room in (
      taken_is (send_done sseq step coding noise xs level wait addr out k v inside r),
      send_block sseq step coding noise xs level wait addr out k v inside r 0 0 (omega arith) (omega arith) ∙ e₉,
      send_block sseq step coding noise xs level wait addr out k v inside r 1 0 (omega arith) (omega arith) ∙ e₂₅,
    )

addresses_hold : (addr octet1 octet2 : ℕ) → address_bad addr ≡ false → addr / 128 * 4 ≡ octet1 → addr % 128 * 2 + 1 ≡ octet2
    → holds (addresses addr octet1 octet2)
unfolding holds made made_head signal_head framed
addresses_hold addr octet1 octet2 inside e₁ e₂ =
    let e : ◌≡◌ {A = List ℕ} (addr / 128 * 4 ∷ (addr % 128 * 2 + 1) ∷ []) (octet1 ∷ octet2 ∷ []) = cc in (
      λ sseq step t n samples level wait out k v room.
          let r = fits_whole sseq step t n samples level wait addr out k v room in (
            taken_is (send_done sseq step t n samples level wait addr out k v inside r),
            address_octets level wait addr (made addr t (more_sent step) (sequence_sent step sseq) n samples) (send_buffer sseq step t n samples level wait addr out)
                (send_head sseq step t n samples level wait addr out k v inside r) (omega arith) (omega arith) ∙ e,
          ),
      λ bits na wait out k room. (
        taken_is (signal_done bits na wait addr out k inside room),
        address_octets 0 wait addr (framed (signal_head addr na bits) []) (signal_buffer bits na wait addr out) (signal_head_lem bits na wait addr out k inside room) (omega arith) (omega arith) ∙ e,
      ),
      λ level wait f out low taken room.
          let p = node_passes f taken in
          let r = fits_as_it_came level wait addr f out low inside p room in (
            taken_is (forward_done level wait addr f out low inside p r),
            address_octets level wait addr f (forward_buffer level wait addr f out) (forward_head level wait addr f out low inside p r) (omega (arith, p.linked.bit1, p.linked.command)) p.linked.bit2 ∙ e,
          ),
    )

no_address_hold : (addr : ℕ) → address_bad addr ≡ true → holds (no_address addr)
unfolding holds send_answer send_refusal signal_answer signal_refusal forward_answer forward_refusal sent_answer
no_address_hold addr bad = (
  λ sseq step t n samples level wait out k v.
      simp (le-ltb 15 sseq k.ranged, k.in_turn_lem, v.known, le-ltb 15 n k.quiet, v.fit, le-ltb 3 level k.low, bad),
  λ bits na wait out k. simp (le-ltb 15 bits k.four, le-ltb 1 na k.one, bad),
  λ level wait f out low. simp (le-ltb 3 level low, bad),
)

waits_hold : (from to wait : ℕ) → stamp_after 0 (wait_of from to) ≡ wait → holds (waits from to wait)
unfolding holds onward_head signal_head framed
waits_hold from to wait e bits na addr out k inside room = (
  taken_is (signal_done bits na (wait_of from to) addr out k inside room),
  head_octet (signal_buffer bits na (wait_of from to) addr out) _ 5 (signal_head_lem bits na (wait_of from to) addr out k inside room) (omega arith) ∙ e,
)

stamps_hold : (old wait new : ℕ) → stamp_after old wait ≡ new → holds (stamps old wait new)
unfolding holds onward_head
stamps_hold old wait new e level addr f out low inside taken was room =
    let p = node_passes f taken in
    let r = fits_as_it_came level wait addr f out low inside p room in (
      taken_is (forward_done level wait addr f out low inside p r),
      head_octet (forward_buffer level wait addr f out) _ 5 (forward_head level wait addr f out low inside p r) (omega arith) ∙ rw was e,
    )

-- the frame of sequence 4 is in turn, so that its stamp is of no account up to B
next_hold : (clock refusal due : ℕ) → play_refusal (after_three 0) clock 0 0 4 ≡ refusal → if_taken refusal 1146 0 ≡ due → holds (next 100 three 4 100 clock refusal due)
unfolding holds play_refusal record_bad in_turn due_at
next_hold clock refusal due er ed =
    three_arrive _
    (λ n h f read q s.
    let e : play_refusal (after_three n) clock 0 (stamp f) (sequence f) ≡ refusal = rw q (simp (le-ltb 15 n h, le-ltb 100 (stamp f) s) er) in
    (arrival_number (after_three n) f clock refusal read e, arrival_due (after_three n) f clock refusal read due e (rw q ed)))

plays_hold : (b s : ℕ) → ltb 199 b ≡ false → ltb b s ≡ false → holds (plays b s)
unfolding holds
plays_hold b s hb hs f clock hc read is =
    arrival_number (fresh_record b) f clock 0 read (fresh_plays b (stamp f) clock (sequence f) (ltb-false 199 b hb) (rw is (ltb-false b s hs)) hc)

signals_hold : (a b c d na wait addr : ℕ) (octets : List ℕ) → ltb 15 (8 * a + 4 * b + 2 * c + d) ≡ false → ltb 1 na ≡ false → address_bad addr ≡ false
    → onward_head 0 wait addr (framed (signal_head addr na (8 * a + 4 * b + 2 * c + d)) []) ≡ octets → holds (signals a b c d na wait addr octets)
unfolding holds
signals_hold a b c d na wait addr octets four one inside e out room =
    let bits : ℕ = 8 * a + 4 * b + 2 * c + d in
    let k : LegalSignal bits na = record { four = ltb-false 15 bits four; one = ltb-false 1 na one } in
    (signal_done bits na wait addr out k inside room, signal_head_lem bits na wait addr out k inside room ∙ e)

schedules_hold : holds (schedules 100 three)
unfolding holds
schedules_hold = three_arrive _ (λ n h. tt)

late_hold : (b s : ℕ) → ltb b s ≡ true → holds (late b s)
unfolding holds
late_hold b s h e ranged is = late_on e s ranged (omega (arith, ltb-true b s h))

late_ever_hold : (s : ℕ) → ltb 199 s ≡ true → holds (late_ever s)
unfolding holds
late_ever_hold s h e ranged = late_on e s ranged (omega (arith, ltb-true 199 s h, (in_range e ranged).buildout_low))

pub examples : AllHold table
unfolding row onward_head made made_head signal_head framed send_written onward dropped stamp_after samples_fit all_below block_octet gather play_refusal record_bad in_turn due_at
examples =
    starts_hold _ _ refl (λ samples. refl)
    also then_hold _ _ _ refl (λ samples. refl) (λ samples. refl)
    also then_hold _ _ _ refl (λ samples. refl) (λ samples. refl)
    also packs_hold _ _ _ _ refl refl refl refl refl refl
    also addresses_hold _ _ _ refl refl refl
    also no_address_hold _ refl
    also no_address_hold _ refl
    also waits_hold _ _ _ refl
    also stamps_hold _ _ _ refl
    also stamps_hold _ _ _ refl
    also schedules_hold
    also next_hold _ _ _ refl refl
    also next_hold _ _ _ refl refl
    also plays_hold _ _ refl refl
    also late_hold _ _ refl
    also late_ever_hold _ refl
    also signals_hold _ _ _ _ _ _ _ _ refl refl refl refl
    also none
