-- The watch and the frames fit: what is to be sent is what the signalling writer takes, and what the signalling reader answers is what the watch takes.
use Prim.Native.Nat.{ℕ, zero, suc, ◌≤◌}
use mathlib.Core.Path.{◌≡◌, refl, sym, ap}
use mathlib.Core.Bool.{false}
use mathlib.Core.List.{List}
use native.Mathlib.Omega.{arith}
use borrow.Author.Tests.{le-ltb}
use Rattle.std.specs.Prelude.{Result, Ok, Err}
use Rattle.refusals.specs.Refusals.{if_taken, address_bad}
use Rattle.refusals.specs.declared.Refusal.{Refusal}
use Rattle.refusals.proofs.RefusalLaws.{number_refuses}
use Rattle.frame.specs.Fields.{na, signal_bits, stamp}
use Rattle.onward.specs.Onward.{stamp_after}
use Rattle.origin.specs.Signal.{signal_written, signal_refusal}
use Rattle.origin.proofs.SignalLaws.{taken_signal, signal_read, signal_bits_lem, signal_na, signal_stamp}
use Rattle.playout.specs.Play.{hold}
use Rattle.endpoint.specs.declared.SignalFacts.{SignalFacts}
use Rattle.endpoint.specs.Signal.{signal_order, signal_answer, signal_paper}
use Rattle.watch.specs.declared.Watch.{Watch}
use Rattle.watch.specs.declared.Event.{Event}
use Rattle.watch.specs.declared.Event.TheVariants.{Passing, Frame}
use Rattle.watch.specs.Watch.{brought12, event_answer}
use Rattle.watch.proofs.EventLaws.{sent_low}
use Rattle.trunk.specs.Trunk.{event_of, heard_as}

module _ (w : Watch) (clock : ℕ) (e : Event) (wait addr : ℕ) (inside : address_bad addr ≡ false) where
  abbrev bits : ℕ
  bits = (event_answer w clock e).bits

  abbrev n : ℕ
  n = (event_answer w clock e).na

  -- what is to be sent the signalling writer takes, at any address in range and with room for ten octets
  pub sent_taken : (room : ℕ) → 10 ≤ room → signal_refusal bits n wait addr room ≡ 0
  sent_taken room h =
      let low = sent_low w clock e in
      taken_signal bits n wait addr room (record { four = low.0; one = low.1; inside = inside; enough = h })

  -- and the signalling reader of the far end, where the wait is within its build-out, answers those bits and that N/A
  pub sent_heard : (b : ℕ) → b ≤ 199 → stamp_after 0 wait ≤ b
      → signal_answer b (signal_written bits n wait addr) ≡ record { refusal = 0; bits = bits; na = n; hold = hold b (stamp_after 0 wait) }
  unfolding signal_answer signal_order
  sent_heard b low early =
      let z = sent_taken 10 (omega arith) in
      rw (le-ltb 199 b low, signal_read bits n wait addr 10 z, signal_stamp bits n wait addr, le-ltb b (stamp_after 0 wait) early, signal_bits_lem bits n wait addr 10 z, signal_na bits n wait addr 10 z) refl

  -- so it tells the far end's watch of a frame with that N/A
  pub sent_told : (b : ℕ) → b ≤ 199 → stamp_after 0 wait ≤ b → event_of (signal_answer b (signal_written bits n wait addr)) ≡ Frame n
  sent_told b low early = ap event_of (sent_heard b low early)

-- no frame, whatever its octets, tells the watch of an N/A that it refuses
pub heard_taken : (b : ℕ) (f : List ℕ) → brought12 (event_of (signal_answer b f)) ≡ 0
unfolding signal_answer
heard_taken b f = go (signal_order b f) where
  go : (r : ℕ) → brought12 (event_of (if_taken r (record { refusal = 0; bits = signal_bits f; na = na f; hold = hold b (stamp f) }) (record { refusal = r; bits = 0; na = 0; hold = 0 }))) ≡ 0
  go zero = rw (le-ltb 1 (na f) (omega arith)) refl
  go (suc r) = refl

-- where a refusal refuses, the event is that of the answer in the paper's form
pub by_paper : (heard : Result SignalFacts Refusal) → event_of (heard_as heard) ≡ event_of (signal_paper heard)
unfolding signal_paper
by_paper (Ok a) = refl
by_paper (Err r) = sym (number_refuses r (Frame 0) Passing)
