-- Request A9, of any frame: the words that are answered, and the width beside them.
use Prim.Native.Nat.{ℕ, zero, suc, ◌-◌, ◌<◌}
use mathlib.Core.Path.{◌≡◌, refl}
use mathlib.Core.Bool.{true, false}
use mathlib.Core.List.{List, map}
use native.Mathlib.Nat.{le_of_lt}
use native.Mathlib.Omega.{arith}
use lib.ListN.{drop}
use Rattle.coding.specs.Coding.{droppable_bits, reserved}
use Rattle.coding.proofs.CodingLaws.{d_lt_s}
use Rattle.blocks.specs.Blocks.{samples, divided, all_below, samples_fit}
use Rattle.blocks.proofs.BlocksLaws.{at_width, words_fit}
use Rattle.frame.specs.Fields.{field_m, coding}
use Rattle.frame.specs.Orders.{voice_refusal}
use Rattle.frame.proofs.FrameLaws.{voice_taken}
use Rattle.playout.specs.declared.Endpoint.{Endpoint}
use Rattle.endpoint.specs.Read.{bits_of, dropped_of, width_of, samples_of, heard_of, read_answer}
use Rattle.endpoint.specs.Arrival.{frame_decision, arrival_by, arrival_of}
use Rattle.endpoint.proofs.ReadLaws.{read_is, read_taken}

module _ (f : List ℕ) (h : voice_refusal f ≡ 0) where
  -- M is D, and every type keeps a block
  dropped_lt : dropped_of f < bits_of f
  dropped_lt =
      let p = voice_taken f h in
      let known : reserved (coding f) ≡ false = rw p.1 at p.0.coded in
      let m : field_m f ≡ droppable_bits (coding f) = rw p.1 at p.0.laid.m_is_d in
      omega (arith, d_lt_s (coding f) known)

  -- the width is S less the number dropped, and never 0
  pub width_left : ((read_answer f).width ≡ (read_answer f).s - (read_answer f).dropped) × (0 < (read_answer f).width)
  width_left = rw (read_taken f h) (refl, omega (arith, dropped_lt))

  -- the words are the samples in which the bits of dropped blocks are zero, each divided by 2 to the power of the number dropped
  pub words_divided : (read_answer f).samples ≡ map (divided (read_answer f).dropped) (samples (drop 8 f) (read_answer f).s (read_answer f).width)
  unfolding samples_of
  words_divided = rw (read_taken f h) (at_width (drop 8 f) (bits_of f) (dropped_of f) (le_of_lt dropped_lt))

-- refused or not, every word fits the width that is answered
heard_fits : (n : ℕ) (f : List ℕ) → samples_fit (heard_of n f).samples (heard_of n f).width ≡ true
unfolding heard_of samples_of samples_fit all_below
heard_fits zero f = words_fit (drop 8 f) (width_of f)
heard_fits (suc n) f = refl

pub read_fits : (f : List ℕ) → samples_fit (read_answer f).samples (read_answer f).width ≡ true
read_fits f = rw (read_is f) (heard_fits (voice_refusal f) f)

pub arrival_fits : (e : Endpoint) (f : List ℕ) (clock : ℕ) → samples_fit (arrival_of e f clock).answer.samples (arrival_of e f clock).answer.width ≡ true
unfolding arrival_of arrival_by
arrival_fits e f clock = heard_fits (frame_decision e f clock).refusal f
