-- Ignored bits make no difference: a frame and the same frame with those bits changed and its check made afresh have the same fields, and the same numbers refuse them.
use Prim.Native.Nat.{ℕ, zero, suc, ◌+◌, ◌-◌, ◌*◌, ◌/◌, ◌%◌, ◌≤◌}
use mathlib.Core.Path.{◌≡◌, refl, sym, ap, ap₂, ◌∙◌}
use mathlib.Core.Bool.{Bool, true, false, not, ◌&&◌, cond}
use mathlib.Core.List.{List}
use native.Mathlib.Omega.{arith}
use lib.Dec.{eqb}
use lib.ListN.{length, take, drop, length-append, length-take, length-drop}
use lib.Seq.{length-take-le, take_at}
use Rattle.octets.specs.Octets.{octet}
use Rattle.refusals.specs.Refusals.{◌or_else◌, refuse, refusal1}
use Rattle.fcs.specs.Fcs.{fcs_octets, fcs_good}
use Rattle.fcs.proofs.SealLaws.{sealed_good}
use Rattle.coding.specs.Coding.{droppable_bits, frame_length, reserved}
use Rattle.frame.specs.Fields.{is_voice, field_m, field_c, stamp, more_bit, coding, sequence, na, signal_bits, covered}
use Rattle.frame.specs.Orders.{refusal2, refusal3, refusal24, refusal5, refusal6, refusal7, refusal8, refusal9, refusal19, legal_length, link_refusal, layout_refusal, taken_refusal, voice_refusal, signal_refusal}
use Rattle.frame.specs.Ignored.{ignored_from, with_ignored}
use Rattle.frame.specs.Calls.{link_answer, taken_answer}
use Rattle.frame.proofs.FrameLaws.{form_refusal, sum_refusal, link_parts, by_kind, laid}

-- a field of an octet is what it was, whatever the bits beside it
m_of : (a m b c : ℕ) → (a * 64 + m % 4 * 16 + b % 4 * 4 + c % 4) / 16 % 4 ≡ m % 4
m_of a m b c = omega arith

c_of : (a m b c : ℕ) → (a * 64 + m * 16 + b * 4 + c % 4) % 4 ≡ c % 4
c_of a m b c = omega arith

more_of : (m a k : ℕ) → (m % 2 * 128 + a % 4 * 32 + k % 32) / 128 % 2 ≡ m % 2
more_of m a k = omega arith

coding_of : (m a k : ℕ) → (m * 128 + a * 32 + k % 32) % 32 ≡ k % 32
coding_of m a k = omega arith

-- an order that does not come to 4 is what it is without it
not_by_4 : (a b : ℕ) (wrong : Bool) → (a or_else refuse wrong 4 or_else b ≡ 4 → ⊥) → a or_else b ≡ a or_else refuse wrong 4 or_else b
not_by_4 zero b true h = absurd (h refl)
not_by_4 zero b false h = refl
not_by_4 (suc a) b wrong h = refl

module _ (g f : List ℕ) where
  -- octets 1 to 4 and 6 have no such bits: the address, the control octet and the stamp stay
  same_octets : (octet 1 (with_ignored g f) ≡ octet 1 f) × (octet 2 (with_ignored g f) ≡ octet 2 f)
      × (octet 3 (with_ignored g f) ≡ octet 3 f) × (octet 4 (with_ignored g f) ≡ octet 4 f)
  unfolding with_ignored ignored_from
  same_octets = (refl, refl, refl, refl)

  pub same_stamp : stamp (with_ignored g f) ≡ stamp f
  unfolding with_ignored ignored_from
  same_stamp = refl

  same_kind : is_voice (with_ignored g f) ≡ is_voice f
  same_kind = ap (λ (x : ℕ). eqb (x / 32 * 32 + x % 16) 239) same_octets.2

  -- 24 is given for none of them
  same_24 : refusal24 (with_ignored g f) ≡ refusal24 f
  unfolding with_ignored ignored_from
  same_24 = refl

  pub same_m : field_m (with_ignored g f) ≡ field_m f
  unfolding with_ignored ignored_from
  same_m = m_of (octet 5 g / 64 % 4) (octet 5 f / 16) (octet 5 g / 4) (octet 5 f)

  pub same_c : field_c (with_ignored g f) ≡ field_c f
  unfolding with_ignored ignored_from
  same_c = c_of (octet 5 g / 64 % 4) (field_m f) (octet 5 g / 4 % 4) (octet 5 f)

  -- voice
  pub same_more : is_voice f ≡ true → more_bit (with_ignored g f) ≡ more_bit f
  unfolding with_ignored ignored_from
  same_more v = rw v (more_of (octet 7 f / 128) (octet 7 g / 32) (octet 7 f))

  pub same_coding : is_voice f ≡ true → coding (with_ignored g f) ≡ coding f
  unfolding with_ignored ignored_from
  same_coding v = rw v (coding_of (more_bit f) (octet 7 g / 32 % 4) (octet 7 f))

  pub same_sequence : is_voice f ≡ true → sequence (with_ignored g f) ≡ sequence f
  unfolding with_ignored ignored_from
  same_sequence v = rw v

  -- signalling, and of voice the noise
  pub same_na : na (with_ignored g f) ≡ na f
  unfolding with_ignored ignored_from
  same_na = by_kind f (λ v. omega (arith, same_coding v)) (λ v. rw v (omega arith))

  pub same_bits : signal_bits (with_ignored g f) ≡ signal_bits f
  unfolding with_ignored ignored_from
  same_bits = by_kind f (λ v. rw v) (λ v. rw v (omega arith))

  -- the voice field
  pub same_field : take (length f - 10) (drop 8 (with_ignored g f)) ≡ take (length f - 10) (drop 8 f)
  unfolding with_ignored ignored_from
  same_field =
      take_at (take (length f - 10) (drop 8 f)) (fcs_octets (take (covered f) (ignored_from g f))) (length f - 10)
      (length-take-le (length f - 10) (drop 8 f) (omega (arith, length-drop 8 f)))

  -- the coding type counts of voice alone
  by_coding : {A : Type 0} (part : Bool → ℕ → A) → ((j k : ℕ) → part false j ≡ part false k)
      → part (is_voice (with_ignored g f)) (coding (with_ignored g f)) ≡ part (is_voice f) (coding f)
  by_coding part none =
      by_kind f (λ v. ap₂ part same_kind (same_coding v)) (λ v. rw (same_kind, v) (none (coding (with_ignored g f)) (coding f)))

  module _ (long : 10 ≤ length f) where
    up_to_check : length (ignored_from g f) ≡ length f - 2
    unfolding ignored_from
    up_to_check = simp (length-take, length-drop) (omega arith)

    pub same_length : length (with_ignored g f) ≡ length f
    unfolding with_ignored fcs_octets
    same_length = simp (length-append, up_to_check) (omega arith)

    same_covered : covered (with_ignored g f) ≡ covered f
    unfolding with_ignored ignored_from
    same_covered = ap (λ (n : ℕ). cond (is_voice f) 8 (n - 2)) same_length

    covered_there : (v : Bool) → cond v 8 (length f - 2) ≤ length f - 2
    covered_there true = omega arith
    covered_there false = omega arith

    -- the check is right
    check_good : fcs_good (covered (with_ignored g f)) (with_ignored g f) ≡ true
    unfolding with_ignored
    check_good =
        ap (λ (n : ℕ). fcs_good n (with_ignored g f)) same_covered
        ∙ sealed_good (covered f) (ignored_from g f) (rw up_to_check (covered_there (is_voice f)))

    same_layout : layout_refusal (with_ignored g f) ≡ layout_refusal f
    unfolding layout_refusal
    same_layout =
        let F : List ℕ = with_ignored g f in
        laid f (field_m F) (field_c F) (length F) (stamp F) (cond (is_voice F) (droppable_bits (coding F)) 0) (legal_length F)
        (refusal7 F) (refusal8 F) (refusal9 F) (refusal8 F or_else refusal9 F) (layout_refusal F)
        same_m same_c same_length same_stamp
        (by_coding (λ v k. cond v (droppable_bits k) 0) (λ j k. refl))
        (ap₂ (λ (m c : ℕ). cond (is_voice F) (frame_length (coding F) (m - c)) 10) same_m same_c ∙ by_coding (λ v k. cond v (frame_length k (field_m f - field_c f)) 10) (λ j k. refl))
        refl refl refl refl refl

    -- 6 to 9
    same_rest : refusal6 (with_ignored g f) or_else layout_refusal (with_ignored g f) ≡ refusal6 f or_else layout_refusal f
    same_rest = ap₂ ◌or_else◌ (by_coding (λ v k. refuse (v && reserved k) 6) (λ j k. refl)) same_layout

    same_form : form_refusal (with_ignored g f) ≡ form_refusal f
    unfolding with_ignored ignored_from
    same_form = ap₂ (λ (n r : ℕ). refusal1 n or_else refusal2 f or_else refusal3 f or_else r) same_length same_24

    fresh_sum : sum_refusal (with_ignored g f) ≡ refusal5 f
    unfolding with_ignored ignored_from
    fresh_sum = ap (λ (good : Bool). refuse (not good) 4 or_else refusal5 f) check_good

    -- what refuses f, where that is not its check
    module _ (summed : link_refusal f ≡ 4 → ⊥) where
      same_link_refusal : link_refusal (with_ignored g f) ≡ link_refusal f
      same_link_refusal =
          link_parts (with_ignored g f)
          ∙ ap₂ ◌or_else◌ same_form fresh_sum
          ∙ not_by_4 (form_refusal f) (refusal5 f) (not (fcs_good (covered f) f)) (λ e. summed (link_parts f ∙ e))
          ∙ sym (link_parts f)

      pub same_taken_refusal : taken_refusal (with_ignored g f) ≡ taken_refusal f
      unfolding taken_refusal
      same_taken_refusal = ap₂ ◌or_else◌ same_link_refusal same_rest

      pub same_voice_refusal : voice_refusal (with_ignored g f) ≡ voice_refusal f
      unfolding voice_refusal with_ignored ignored_from
      same_voice_refusal = ap₂ (λ (r s : ℕ). r or_else refusal19 true f or_else s) same_link_refusal same_rest

      pub same_signal_refusal : signal_refusal (with_ignored g f) ≡ signal_refusal f
      unfolding signal_refusal with_ignored ignored_from
      same_signal_refusal = ap₂ (λ (r s : ℕ). r or_else refusal19 false f or_else s) same_link_refusal same_layout

      -- and what the two calls answer
      pub link_ignores : link_answer (with_ignored g f) ≡ link_answer f
      unfolding link_answer with_ignored ignored_from
      link_ignores = rw same_link_refusal

      pub taken_ignores : taken_answer (with_ignored g f) ≡ taken_answer f
      unfolding taken_answer with_ignored ignored_from
      taken_ignores = simp (same_taken_refusal, same_length, same_m, same_c)
