-- Reserved bits, and of signalling the more bit and the sequence, make no difference: a frame and the same frame with those bits changed and its check made afresh are heard alike.
-- C/R and poll bits are not among them: 24 refuses them.
use Prim.Native.Nat.{ℕ, zero, suc, ◌-◌, ◌≤◌}
use mathlib.Core.Path.{◌≡◌, refl, sym, ap, ◌∙◌}
use mathlib.Core.Bool.{true, false}
use mathlib.Core.List.{List}
use native.Mathlib.Omega.{arith}
use lib.ListN.{length, drop}
use Rattle.refusals.specs.Refusals.{◌or_else◌}
use Rattle.refusals.proofs.RefusalLaws.{or_else_zero, or_else_assoc}
use Rattle.blocks.proofs.BlocksLaws.{samples_alike}
use Rattle.frame.specs.Fields.{is_voice}
use Rattle.frame.specs.Orders.{link_refusal, voice_refusal}
use Rattle.frame.specs.Ignored.{with_ignored}
use Rattle.frame.proofs.FrameLaws.{by_link, by_kind, voice_taken}
use Rattle.frame.proofs.IgnoredLaws.{same_m, same_c, same_stamp, same_more, same_coding, same_sequence, same_na, same_bits, same_field, same_voice_refusal, same_signal_refusal}
use Rattle.playout.specs.declared.Endpoint.{Endpoint}
use Rattle.playout.specs.Play.{Decided, refusal14, refusal18, still_stores}
use Rattle.endpoint.specs.Read.{width_of, samples_of, heard_of, read_answer}
use Rattle.endpoint.specs.Arrival.{frame_decision, reset_of, arrival_by, arrival_of}
use Rattle.endpoint.specs.Signal.{signal_order, signal_answer}
use Rattle.endpoint.proofs.ReadLaws.{voice_size, read_is}
use Rattle.endpoint.proofs.ArrivalLaws.{early_stores_nothing, decided_unstored, arrival_readable}

-- no number of the link stores anything, and 19 neither
link_stores_nothing : (f : List ℕ) → still_stores (link_refusal f or_else 19) ≡ false
link_stores_nothing f = by_link (λ n. still_stores (n or_else 19) ≡ false) f refl refl refl refl refl refl refl

either_stores_nothing : (m n : ℕ) → still_stores m ≡ false → still_stores n ≡ false → still_stores (m or_else n) ≡ false
either_stores_nothing zero n p q = q
either_stores_nothing (suc m) n p q = p

-- so a signalling frame is refused in a voice call, and leaves the record as it came
module _ (e : Endpoint) (clock : ℕ) (f : List ℕ) (v : is_voice f ≡ false) where
  signalling_stores : still_stores (refusal14 e or_else refusal18 e clock or_else voice_refusal f) ≡ false
  unfolding voice_refusal
  signalling_stores =
      ap still_stores (or_else_assoc (refusal14 e) (refusal18 e clock) (voice_refusal f))
      ∙ either_stores_nothing (refusal14 e or_else refusal18 e clock) (voice_refusal f) (early_stores_nothing e clock) (rw v (link_stores_nothing f))

  signalling_refused : refusal14 e or_else refusal18 e clock or_else voice_refusal f ≡ 0 → ⊥
  signalling_refused z =
      let no : true ≡ false = sym (voice_taken f (or_else_zero (refusal18 e clock) (voice_refusal f) (or_else_zero (refusal14 e) (refusal18 e clock or_else voice_refusal f) z).1).1).1 ∙ v in
      let never : ◌≡◌ {A = ℕ} 0 1 = cc in
      omega arith

module _ (g f : List ℕ) where
  -- what is heard of a voice frame that passes
  samples_same : voice_refusal f ≡ 0 → samples_of (with_ignored g f) ≡ samples_of f
  unfolding samples_of
  samples_same h =
      let n = voice_size f h in
      let coded = same_coding g f (voice_taken f h).1 in
      simp (coded, same_m g f, same_c g f)
      (samples_alike (drop 8 (with_ignored g f)) (drop 8 f) (width_of f) (length f - 10) (width_of f) (omega arith) (same_field g f))

  heard_same : (n : ℕ) → (n ≡ 0 → voice_refusal f ≡ 0) → heard_of n (with_ignored g f) ≡ heard_of n f
  unfolding heard_of
  heard_same zero h = simp (samples_same (h refl), same_coding g f (voice_taken f (h refl)).1, same_m g f, same_c g f)
  heard_same (suc n) h = refl

  reset_same : (n : ℕ) → (n ≡ 0 → voice_refusal f ≡ 0) → reset_of n (with_ignored g f) ≡ reset_of n f
  unfolding reset_of
  reset_same zero h = let v = (voice_taken f (h refl)).1 in simp (same_sequence g f v, same_coding g f v)
  reset_same (suc n) h = refl

  by_same : (d : Decided) → (d.refusal ≡ 0 → voice_refusal f ≡ 0) → arrival_by d (with_ignored g f) ≡ arrival_by d f
  unfolding arrival_by
  by_same d h = rw (heard_same d.refusal h, reset_same d.refusal h)

  module _ (long : 10 ≤ length f) (summed : link_refusal f ≡ 4 → ⊥) where
    pub read_ignores : read_answer (with_ignored g f) ≡ read_answer f
    read_ignores = read_is (with_ignored g f) ∙ ap (λ (n : ℕ). heard_of n (with_ignored g f)) (same_voice_refusal g f long summed) ∙ heard_same (voice_refusal f) (λ z. z) ∙ sym (read_is f)

    decided_same : (e : Endpoint) (clock : ℕ) → frame_decision e (with_ignored g f) clock ≡ frame_decision e f clock
    unfolding frame_decision
    decided_same e clock =
        by_kind f
        (λ v. simp (same_voice_refusal g f long summed, same_stamp g f, same_more g f v, same_sequence g f v, same_bits g f))
        (λ v. let first : ℕ = refusal14 e or_else refusal18 e clock or_else voice_refusal f in
        let none = signalling_stores e clock f v in
        let some = signalling_refused e clock f v in
        sym (decided_unstored e (with_ignored g f) clock first (ap (λ (n : ℕ). refusal14 e or_else refusal18 e clock or_else n) (sym (same_voice_refusal g f long summed))) some none)
        ∙ decided_unstored e f clock first refl some none)

    pub arrival_ignores : (e : Endpoint) (clock : ℕ) → arrival_of e (with_ignored g f) clock ≡ arrival_of e f clock
    unfolding arrival_of
    arrival_ignores e clock =
        ap (λ (d : Decided). arrival_by d (with_ignored g f)) (decided_same e clock) ∙ by_same (frame_decision e f clock) (arrival_readable e f clock)

    pub signal_ignores : (b : ℕ) → signal_answer b (with_ignored g f) ≡ signal_answer b f
    unfolding signal_answer signal_order
    signal_ignores b = simp (same_signal_refusal g f long summed, same_stamp g f, same_na g f, same_bits g f)
