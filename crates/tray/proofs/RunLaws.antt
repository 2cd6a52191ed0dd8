-- The frames of a tray under way: a record more is the definition's next step.
use Prim.Native.Nat.{ℕ, ◌+◌, ◌-◌, ◌≤◌, ◌<◌}
use mathlib.Core.Path.{◌≡◌, refl, sym, ap, ap₂, subst, ◌∙◌}
use mathlib.Core.Bool.{true}
use mathlib.Core.List.{List, [], ◌∷◌, ◌++◌, append_assoc, append-nil}
use native.Mathlib.Omega.{arith}
use lib.ListN.{length, take, drop, set}
use lib.Seq.{take_all}
use borrow.Rule.Slice.PartMut.{mid_of, put_mid}
use Rattle.std.proofs.lemmas.List.{drop-take}
use Rattle.octets.specs.Records.{following}
use Rattle.octets.proofs.PartLaws.{tail_of, tail_length}
use Rattle.refusals.proofs.RefusalLaws.{by_taken, if_taken_lem, if_refused}
use Rattle.onward.specs.Onward.{onward}
use Rattle.onward.specs.Sent.{Sent, sent_answer, sent_buffer}
use Rattle.onward.proofs.SentLaws.{answered}
use Rattle.tray.specs.Tray.{whole, frame, Read, with_frame, read, record_of, records_of, Passed, frame_refusal, sent_on, passed, numbers, outgoing}
use Rattle.tray.proofs.ReadLaws.{some_whole, whole_known, read_whole, record_length}
use Rattle.tray.proofs.RecordLaws.{record_fits}
use Rattle.tray.proofs.FillLaws.{Filling, fill_start, fill_over, fill_part, fill_set}

pub records_append : (fs gs : List (List ℕ)) → records_of (fs ++ gs) ≡ records_of fs ++ records_of gs
unfolding records_of
records_append [] gs = refl
records_append (f ∷ fs) gs = ap (λ (l : List ℕ). record_of f ++ l) (records_append fs gs) ∙ sym (append_assoc (record_of f) (records_of fs) (records_of gs))

module _ (level wait addr : ℕ) where
  -- what a frame adds to the outgoing octets, taken or refused
  pub record_taken : (f : List ℕ) (room : ℕ) → frame_refusal level wait addr f room ≡ 0 → records_of (sent_on level wait addr f room) ≡ record_of (onward level wait addr f)
  unfolding sent_on records_of
  record_taken f room h = ap records_of (if_taken_lem (frame_refusal level wait addr f room) _ _ h) ∙ append-nil (record_of (onward level wait addr f))

  pub record_none : (f : List ℕ) (room : ℕ) → (frame_refusal level wait addr f room ≡ 0 → ⊥) → records_of (sent_on level wait addr f room) ≡ []
  unfolding sent_on records_of
  record_none f room h = ap records_of (if_refused (frame_refusal level wait addr f room) _ _ h)

  pub added_fits : (f : List ℕ) (room : ℕ) → length (records_of (sent_on level wait addr f room)) ≤ room
  added_fits f room =
      by_taken (frame_refusal level wait addr f room)
      (λ z. omega (arith, ap length (record_taken f room z), record_length (onward level wait addr f), record_fits level wait addr f room z))
      (λ h. omega (arith, ap length (record_none f room h)))

  -- the same of what `forward_record` answers and leaves
  added : (f out x : List ℕ) (s : Sent) → s ≡ sent_answer (frame_refusal level wait addr f (length out)) (record_of (onward level wait addr f))
      → x ≡ sent_buffer (frame_refusal level wait addr f (length out)) (record_of (onward level wait addr f)) out
      → (s.length ≡ length (records_of (sent_on level wait addr f (length out)))) × (x ≡ records_of (sent_on level wait addr f (length out)) ++ drop s.length out)
  unfolding sent_answer sent_buffer
  added f out x s es ex =
      let q : ℕ = frame_refusal level wait addr f (length out) in
      let g : List ℕ = record_of (onward level wait addr f) in
      by_taken q
      (λ z.
      let n : s.length ≡ length g = ap (λ (a : Sent). a.length) (es ∙ if_taken_lem q _ _ z) in
      let t = record_taken f (length out) z in
      (n ∙ ap length (sym t), ex ∙ if_taken_lem q _ _ z ∙ ap₂ (λ (l : List ℕ) (k : ℕ). l ++ drop k out) (sym t) (sym n)))
      (λ h.
      let n : s.length ≡ 0 = ap (λ (a : Sent). a.length) (es ∙ if_refused q _ _ h) in
      let t = record_none f (length out) h in
      (n ∙ ap length (sym t), ex ∙ if_refused q _ _ h ∙ ap₂ (λ (l : List ℕ) (k : ℕ). l ++ drop k out) (sym t) (sym n)))

  next_passed : (f : List ℕ) (fs : List (List ℕ)) (room : ℕ) (s : Passed) → s ≡ passed level wait addr fs (room - length (records_of (sent_on level wait addr f room)))
      → ((passed level wait addr (f ∷ fs) room).refusals ≡ frame_refusal level wait addr f room ∷ s.refusals)
      × (records_of (passed level wait addr (f ∷ fs) room).sent ≡ records_of (sent_on level wait addr f room) ++ records_of s.sent)
  unfolding passed
  next_passed f fs room s e = (
    ap (λ (p : Passed). frame_refusal level wait addr f room ∷ p.refusals) (sym e),
    records_append (sent_on level wait addr f room) _ ∙ ap (λ (p : Passed). records_of (sent_on level wait addr f room) ++ records_of p.sent) (sym e),
  )

  none_passed : (fs : List (List ℕ)) (room : ℕ) → length fs ≡ 0 → ((passed level wait addr fs room).refusals ≡ []) × (records_of (passed level wait addr fs room).sent ≡ [])
  unfolding passed records_of
  none_passed [] room h = (refl, refl)
  none_passed (f ∷ fs) room h = absurd (omega arith)

-- so far: `rest` is left of the tray, `written` octets of the buffer, i places of the list
pub record Run (level wait addr : ℕ) (tray out₀ list₀ out list rest : List ℕ) (written i : ℕ) : Type 0 where
  pub many : i + length (read rest).frames ≡ length (read tray).frames
  pub octets : Filling written out out₀ (outgoing level wait addr rest (length out₀ - written)) (outgoing level wait addr tray (length out₀))
  pub places : Filling i list list₀ (numbers level wait addr rest (length out₀ - written)) (numbers level wait addr tray (length out₀))

pub run_start : (level wait addr : ℕ) (tray out list : List ℕ) → Run level wait addr tray out list out list tray 0 0
run_start level wait addr tray out list = record {
  many = omega arith;
  octets = subst (λ (n : ℕ). Filling 0 out out (outgoing level wait addr tray n) (outgoing level wait addr tray (length out))) none (fill_start out _);
  places = subst (λ (n : ℕ). Filling 0 list list (numbers level wait addr tray n) (numbers level wait addr tray (length out))) none (fill_start list _);
} where
  none : length out ≡ length out - 0
  none = omega arith

module _ (level wait addr : ℕ) (tray out₀ list₀ out list rest : List ℕ) (written i : ℕ) (run : Run level wait addr tray out₀ list₀ out list rest written i) where
  pub run_over : length (read tray).frames ≤ i → length list ≤ i
      → (written ≡ length (outgoing level wait addr tray (length out₀)))
      × (out ≡ outgoing level wait addr tray (length out₀) ++ drop (length (outgoing level wait addr tray (length out₀))) out₀)
      × (list ≡ numbers level wait addr tray (length out₀))
  run_over h k =
      let z = none_passed level wait addr (read rest).frames (length out₀ - written) (omega (arith, run.many)) in
      let o = fill_over written out out₀ _ (subst (λ (l : List ℕ). Filling written out out₀ l (outgoing level wait addr tray (length out₀))) z.1 run.octets) in
      let p : Filling i list list₀ [] (numbers level wait addr tray (length out₀)) = subst (λ (l : List ℕ). Filling i list list₀ l (numbers level wait addr tray (length out₀))) z.0 run.places in
      (o.0, o.1, sym (take_all i list k) ∙ sym (append-nil (take i list)) ∙ p.front)

  module _ (more : i < length (read tray).frames) (n : ℕ) (en : n ≡ following rest) where
    whole_here : whole rest ≡ true
    whole_here = some_whole rest (omega (arith, run.many))

    pub run_size : (4 ≤ 2 + n) × (2 + n ≤ length rest)
    run_size = let k = whole_known rest whole_here in (omega (arith, k.long, en), omega (arith, k.here, en))

    -- its frame
    pub run_frame : (r : List ℕ) → r ≡ take (2 + n) rest → mid_of 4 (length r - 4) r ≡ frame rest
    unfolding frame
    run_frame r er =
        let k : 4 + (following rest - 2) ≡ 2 + n = omega (arith, en, run_size.0) in
        tail_of 4 r ∙ ap (drop 4) (er ∙ ap (λ (j : ℕ). take j rest) (sym k)) ∙ drop-take 4 (following rest - 2) rest

    room_here : length (mid_of written (length out - written) out) ≡ length out₀ - written
    room_here = tail_length written out ∙ ap (λ (k : ℕ). k - written) run.octets.same

    -- it is sent on, or refused, and `left` is left of the tray
    module _ (f left : List ℕ) (ef : f ≡ frame rest) (el : left ≡ drop (2 + n) rest) (sent : Sent) (p : List ℕ)
        (ea : sent ≡ sent_answer (frame_refusal level wait addr f (length (mid_of written (length out - written) out))) (record_of (onward level wait addr f)))
        (eb : p ≡ sent_buffer (frame_refusal level wait addr f (length (mid_of written (length out - written) out))) (record_of (onward level wait addr f)) (mid_of written (length out - written) out)) where
      read_here : read rest ≡ record { frames = frame rest ∷ (read left).frames; left = (read left).left }
      read_here =
          read_whole rest whole_here
          ∙ ap (λ (r : List ℕ). with_frame (frame rest) (read r)) (ap (λ (k : ℕ). drop (2 + k) rest) (sym en) ∙ sym el)

      same_step : (frame_refusal level wait addr f (length (mid_of written (length out - written) out)) ≡ frame_refusal level wait addr (frame rest) (length out₀ - written))
          × (records_of (sent_on level wait addr f (length (mid_of written (length out - written) out))) ≡ records_of (sent_on level wait addr (frame rest) (length out₀ - written)))
      same_step = (ap₂ (frame_refusal level wait addr) ef room_here, ap₂ (λ (g : List ℕ) (k : ℕ). records_of (sent_on level wait addr g k)) ef room_here)

      size_sent : sent.length ≡ length (records_of (sent_on level wait addr (frame rest) (length out₀ - written)))
      size_sent = (added level wait addr f (mid_of written (length out - written) out) p sent ea eb).0 ∙ ap length same_step.1

      refusal_sent : sent.refusal ≡ frame_refusal level wait addr (frame rest) (length out₀ - written)
      refusal_sent = ap (λ (s : Sent). s.refusal) ea ∙ answered _ _ ∙ same_step.0

      run_room : written + sent.length ≤ length out₀
      run_room = omega (arith, size_sent, added_fits level wait addr (frame rest) (length out₀ - written), run.octets.room)

      -- the definition's next step
      step : (numbers level wait addr rest (length out₀ - written) ≡ sent.refusal ∷ numbers level wait addr left (length out₀ - (written + sent.length)))
          × (outgoing level wait addr rest (length out₀ - written) ≡ records_of (sent_on level wait addr (frame rest) (length out₀ - written)) ++ outgoing level wait addr left (length out₀ - (written + sent.length)))
      step =
          let k : length out₀ - (written + sent.length) ≡ length out₀ - written - length (records_of (sent_on level wait addr (frame rest) (length out₀ - written))) = omega (arith, size_sent) in
          let m = next_passed level wait addr (frame rest) (read left).frames (length out₀ - written) _ (ap (passed level wait addr (read left).frames) k) in (
            ap (λ (r : Read). (passed level wait addr r.frames (length out₀ - written)).refusals) read_here ∙ m.0 ∙ ap (λ (q : ℕ). q ∷ numbers level wait addr left (length out₀ - (written + sent.length))) (sym refusal_sent),
            ap (λ (r : Read). records_of (passed level wait addr r.frames (length out₀ - written)).sent) read_here ∙ m.1,
          )

      run_on : i < length list₀
          → Run level wait addr tray out₀ list₀ (put_mid written (length out - written) out p) (set list i sent.refusal) left (written + sent.length) (i + 1)
      run_on h = record {
        many = omega (arith, run.many, ap (λ (r : Read). length r.frames) read_here);
        octets =
            fill_part written out out₀ _ (records_of (sent_on level wait addr (frame rest) (length out₀ - written))) _ p sent.length
            (subst (λ (l : List ℕ). Filling written out out₀ l (outgoing level wait addr tray (length out₀))) step.1 run.octets)
            size_sent run_room
            ((added level wait addr f (mid_of written (length out - written) out) p sent ea eb).1 ∙ ap (λ (l : List ℕ). l ++ drop sent.length (mid_of written (length out - written) out)) same_step.1);
        places =
            fill_set i list list₀ _ sent.refusal _
            (subst (λ (l : List ℕ). Filling i list list₀ l (numbers level wait addr tray (length out₀))) step.0 run.places) h;
      }

      -- `v` is put into the list, and `k` octets were written
      pub run_next : i < length list₀ → (v k : ℕ) → v ≡ sent.refusal → k ≡ sent.length
          → Run level wait addr tray out₀ list₀ (put_mid written (length out - written) out p) (set list i v) left (written + k) (i + 1)
      run_next h v k ev ek = rw (ev, ek) (run_on h)
