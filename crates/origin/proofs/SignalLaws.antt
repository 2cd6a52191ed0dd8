-- Laws of the signalling frame: what is known of a call that is not refused, how long its frame is, that it passes every check, and its fields.
use Prim.Native.Nat.{ℕ, ◌/◌, ◌≤◌}
use mathlib.Core.Path.{◌≡◌, refl, sym, ap, ap₂, ◌∙◌}
use mathlib.Core.Bool.{false}
use mathlib.Core.List.{List, [], ◌++◌}
use native.Mathlib.Nat.{le_refl}
use native.Mathlib.Omega.{arith}
use lib.ListN.{length, take, drop}
use borrow.Author.Tests.{ltb-false, le-ltb}
use Rattle.octets.proofs.BoolLaws.{or_false}
use Rattle.refusals.specs.Refusals.{◌or_else◌, address_bad, refusal12, refusal15, refusal16}
use Rattle.refusals.proofs.RefusalLaws.{or_else_zero, refuse_zero}
use Rattle.fcs.specs.Fcs.{fcs_octets}
use Rattle.frame.specs.Fields.{is_voice, stamp, more_bit, sequence, na, signal_bits}
use Rattle.frame.specs.Orders.{signal_refusal as readerRefusal}
use Rattle.frame.proofs.FrameLaws.{Passes, link_passed, layout_passed}
use Rattle.onward.specs.Onward.{stamp_after, dropped, onward_head, onward_field, framed, onward}
use Rattle.onward.proofs.SentLaws.{answer_refused, buffer_refused, answer_done, buffer_done}
use Rattle.onward.proofs.OnwardLaws.{onward_length, closed, sealed_behind}
use Rattle.origin.proofs.MadeLaws.{made_linked}
use Rattle.origin.specs.Signal.{signal_head, signal_written, signal_refusal, signal_answer, signal_buffer}

module _ (bits n wait addr : ℕ) where
  pub signal_length : length (signal_written bits n wait addr) ≡ 10
  unfolding signal_written signal_head dropped framed fcs_octets
  signal_length = onward_length 0 wait addr (framed (signal_head addr n bits) [])

  -- the order, of numbers that were judged one by one, the length by its number
  pub signal_judged : (room r12 r15 r16 m r : ℕ) → r15 ≡ refusal15 addr → r16 ≡ refusal16 room 10 → m ≡ r15 or_else r16
      → r12 ≡ refusal12 bits n → r ≡ r12 or_else m → r ≡ signal_refusal bits n wait addr room
  unfolding signal_refusal
  signal_judged room r12 r15 r16 m r p q s u v =
      v ∙ ap₂ ◌or_else◌ u (s ∙ ap₂ ◌or_else◌ p (q ∙ ap (refusal16 room) (sym signal_length)))

  -- what the call answers and leaves, where it is refused and where its frame is written
  module _ (out : List ℕ) (r : ℕ) (e : r ≡ signal_refusal bits n wait addr (length out)) where
    pub signal_refused : (r ≡ 0 → ⊥)
        → (record { refusal = r; length = 0 } ≡ signal_answer bits n wait addr out) × (out ≡ signal_buffer bits n wait addr out)
    unfolding signal_answer signal_buffer
    signal_refused h = (
      answer_refused (signal_refusal bits n wait addr (length out)) r (signal_written bits n wait addr) e h,
      buffer_refused (signal_refusal bits n wait addr (length out)) r (signal_written bits n wait addr) e h out,
    )

    pub signal_done : (w size : ℕ) (x : List ℕ) → r ≡ 0 → w ≡ wait
        → size ≡ length (signal_written bits n w addr) → x ≡ signal_written bits n w addr ++ drop size out
        → (record { refusal = 0; length = size } ≡ signal_answer bits n wait addr out) × (x ≡ signal_buffer bits n wait addr out)
    unfolding signal_answer signal_buffer
    signal_done w size x z ew es ex =
        let l : size ≡ length (signal_written bits n wait addr) = es ∙ ap (λ (k : ℕ). length (signal_written bits n k addr)) ew in
        let v : x ≡ signal_written bits n wait addr ++ drop size out = ex ∙ ap (λ (k : ℕ). signal_written bits n k addr ++ drop size out) ew in (
          answer_done (signal_refusal bits n wait addr (length out)) r size (signal_written bits n wait addr) e z l,
          buffer_done (signal_refusal bits n wait addr (length out)) r size (signal_written bits n wait addr) e z l out x v,
        )

  pub signal_eight : (x : List ℕ) → x ≡ signal_head addr n bits → 8 ≤ length x
  unfolding signal_head
  signal_eight x e = rw e (le_refl 8)

  -- octets 1 to 8 and the seal, put into a buffer one after the other
  pub signal_in : (O head x₁ x₂ : List ℕ) → head ≡ signal_head addr n bits → x₁ ≡ onward_head 0 wait addr head ++ drop 8 O
      → x₂ ≡ take 8 x₁ ++ fcs_octets (take 8 x₁) ++ drop 10 x₁ → x₂ ≡ signal_written bits n wait addr ++ drop 10 O
  unfolding signal_written onward onward_head onward_field signal_head framed dropped fcs_octets
  signal_in O head x₁ x₂ eh e₁ e₂ =
      let H : List ℕ = onward_head 0 wait addr (framed (signal_head addr n bits) []) in
      let e₁' : x₁ ≡ H ++ drop 8 O = e₁ ∙ ap (λ (h : List ℕ). onward_head 0 wait addr h ++ drop 8 O) eh in
      sealed_behind H O x₁ x₂ 8 refl (omega arith) e₁' e₂

  pub record SignalTaken (room : ℕ) : Type 0 where
    pub four : bits ≤ 15
    pub one : n ≤ 1
    pub inside : address_bad addr ≡ false
    pub enough : 10 ≤ room

  pub signal_taken : (room : ℕ) → signal_refusal bits n wait addr room ≡ 0 → SignalTaken room
  unfolding signal_refusal
  signal_taken room h =
      let q12 = or_else_zero _ _ h in
      let q15 = or_else_zero _ _ q12.1 in
      let small = or_false _ _ (refuse_zero _ 11 q12.0) in
      record {
        four = ltb-false _ _ small.0;
        one = ltb-false _ _ small.1;
        inside = refuse_zero _ 14 q15.0;
        enough = omega (arith, ltb-false room (length (signal_written bits n wait addr)) (refuse_zero _ 15 q15.1), signal_length);
      }

  pub taken_signal : (room : ℕ) → SignalTaken room → signal_refusal bits n wait addr room ≡ 0
  unfolding signal_refusal
  taken_signal room t =
      let e : length (signal_written bits n wait addr) ≤ room = omega (arith, t.enough, signal_length) in
      simp (le-ltb _ _ t.four, le-ltb _ _ t.one, t.inside, le-ltb _ _ e)

  -- the more bit and the sequence of a signalling frame are 0
  pub signal_more : n ≤ 1 → more_bit (signal_written bits n wait addr) ≡ 0
  unfolding signal_written onward onward_head signal_head framed
  signal_more h = let e : n / 128 ≡ 0 = omega arith in rw e

  pub signal_sequence : bits ≤ 15 → sequence (signal_written bits n wait addr) ≡ 0
  unfolding signal_written onward onward_head signal_head framed
  signal_sequence h = let e : bits / 16 ≡ 0 = omega arith in rw e

  pub signal_stamp : stamp (signal_written bits n wait addr) ≡ stamp_after 0 wait
  unfolding signal_written onward onward_head signal_head framed
  signal_stamp = refl

  pub signal_voice : is_voice (signal_written bits n wait addr) ≡ false
  unfolding signal_written onward onward_head signal_head framed
  signal_voice = refl

  signal_made_passes : address_bad addr ≡ false → Passes (framed (signal_head addr n bits) [])
  unfolding signal_head framed fcs_octets
  signal_made_passes inside =
      record {
        linked = made_linked addr 3 0 n bits [] inside (omega arith) refl refl refl;
        coded = refl;
        laid = record { m_is_d = refl; c_le_m = omega arith; size = refl; stamped = omega arith };
      }

  module _ (room : ℕ) (h : signal_refusal bits n wait addr room ≡ 0) where
    k : SignalTaken room
    k = signal_taken room h

    -- it passes every check of a node, and of a signalling reader
    pub signal_passes : Passes (signal_written bits n wait addr)
    unfolding signal_written
    signal_passes = closed 0 wait addr (framed (signal_head addr n bits) []) (signal_made_passes k.inside) k.inside

    pub signal_read : readerRefusal (signal_written bits n wait addr) ≡ 0
    unfolding readerRefusal
    signal_read =
        simp (link_passed (signal_written bits n wait addr) signal_passes.linked, layout_passed (signal_written bits n wait addr) signal_passes.laid)
        (rw signal_voice)

    pub signal_bits_lem : signal_bits (signal_written bits n wait addr) ≡ bits
    unfolding signal_written onward onward_head signal_head framed
    signal_bits_lem = omega (arith, k.four)

    pub signal_na : na (signal_written bits n wait addr) ≡ n
    unfolding signal_written onward onward_head signal_head framed
    signal_na = omega (arith, k.one)
