-- Of each public promise, two outcomes that it allows are equal; and the arrival by value and the arrival in place are one promise.
use Prim.Native.Nat.{ℕ}
use mathlib.Core.Path.{◌≡◌, refl, ap, ap₂}
use mathlib.Core.List.{List}
use contract.Lifetimes.{Lfts}
use Rattle.std.specs.Prelude.{Result}
use Rattle.octets.proofs.BoolLaws.{one_outcome}
use Rattle.refusals.specs.declared.Refusal.{Refusal}
use Rattle.refusals.proofs.RefusalLaws.{result_one}
use Rattle.playout.specs.declared.Endpoint.{Endpoint}
use Rattle.endpoint.specs.declared.Arrival.{Arrival}
use Rattle.endpoint.specs.declared.Arrived.{Arrived}
use Rattle.endpoint.specs.Read.{Heard, heard_paper}
use Rattle.endpoint.specs.Signal.{SignalHeard, signal_paper}
use Rattle.endpoint.specs.Arrival.{ArrivalHeard, Moved, arrival_paper, arrived_paper, arrival_of}
use Rattle.endpoint.proofs.fresh.Reads as fresh
use Rattle.endpoint.proofs.read.Reads as read
use Rattle.endpoint.proofs.arrive_value.Reads as arrive-value
use Rattle.endpoint.proofs.signal.Reads as signal
use Rattle.endpoint.proofs.fill.Reads as fill

pub fresh_one : (κs : Lfts 0) (a r r' s s' : _) → fresh.Post κs a r s → fresh.Post κs a r' s' → r ≡ r'
fresh_one κs a r r' s s' p q = one_outcome p q

pub read_one : (κs : Lfts 1) (a r r' s s' : _) → read.Post κs a r s → read.Post κs a r' s' → r ≡ r'
unfolding heard_paper
read_one κs a r r' s s' p q =
    result_one heard_paper (λ (x : Heard). x.refusal) (λ (x : Heard). record { s = x.s; dropped = x.dropped; width = x.width; samples = x.samples }) (λ a. refl) (λ a. refl) (λ r. refl) r r' (one_outcome p q)

-- of an arrival, only one answer has the paper's number and values
answer_one : (x y : Result Arrival Refusal) → arrival_paper x ≡ arrival_paper y → x ≡ y
unfolding arrival_paper
answer_one =
    result_one arrival_paper (λ (x : ArrivalHeard). x.refusal)
    (λ (x : ArrivalHeard). record { due = x.due; reset = x.reset; s = x.s; dropped = x.dropped; width = x.width; samples = x.samples }) (λ a. refl) (λ a. refl) (λ r. refl)

arrived_one : (x y : Arrived) → arrived_paper x ≡ arrived_paper y → x ≡ y
unfolding arrived_paper
arrived_one x y e =
    ap₂ (λ (a : Result Arrival Refusal) (l : Endpoint). record { answer = a; after = l }) (answer_one x.answer y.answer (ap (λ (m : Moved). m.answer) e)) (ap (λ (m : Moved). m.after) e)

pub arrive_value_one : (κs : Lfts 1) (a r r' s s' : _) → arrive-value.Post κs a r s → arrive-value.Post κs a r' s' → r ≡ r'
arrive_value_one κs a r r' s s' p q = arrived_one r r' (one_outcome p q)

pub signal_one : (κs : Lfts 1) (a r r' s s' : _) → signal.Post κs a r s → signal.Post κs a r' s' → r ≡ r'
unfolding signal_paper
signal_one κs a r r' s s' p q =
    result_one signal_paper (λ (x : SignalHeard). x.refusal) (λ (x : SignalHeard). record { bits = x.bits; na = x.na; hold = x.hold }) (λ a. refl) (λ a. refl) (λ r. refl) r r' (one_outcome p q)

-- the octets of the part that is answered
pub fill_one : (κs : Lfts 1) (a r r' s s' : _) → fill.Post κs a r s → fill.Post κs a r' s' → r.now ≡ r'.now
fill_one κs a r r' s s' p q = one_outcome p q

-- what `arrive` promises of the record left and of the answer
pub record InPlace (e : Endpoint) (f : List ℕ) (clock : ℕ) (left : Endpoint) (answer : Result Arrival Refusal) : Type 0 where
  pub record_left : left ≡ (arrival_of e f clock).after
  pub answered : arrival_paper answer ≡ (arrival_of e f clock).answer

module _ (e : Endpoint) (f : List ℕ) (clock : ℕ) (left : Endpoint) (answer : Result Arrival Refusal) (p : InPlace e f clock left answer) where
  pub arrive_one : (left' : Endpoint) (answer' : Result Arrival Refusal) → InPlace e f clock left' answer' → (left ≡ left') × (answer ≡ answer')
  arrive_one left' answer' q = (one_outcome p.record_left q.record_left, answer_one answer answer' (one_outcome p.answered q.answered))

  -- both forms promise the same answer and the same record
  pub both_forms : (value : Arrived) → arrived_paper value ≡ arrival_of e f clock → value ≡ record { answer = answer; after = left }
  unfolding arrived_paper
  both_forms value q = arrived_one value (record { answer = answer; after = left }) (rw (p.answered, p.record_left) q)
