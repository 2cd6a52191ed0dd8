-- Document 01, "Play-out": the arrival of a frame. The decision is taken on its fields, and what is heard is what the reader hears.
use Rattle.std.specs.Prelude.{ℕ, cond, List, eqb, replicate, Result, Ok, Err}
use Rattle.refusals.specs.Refusals.{if_taken, number}
use Rattle.refusals.specs.declared.Refusal.{Refusal}
use Rattle.coding.specs.Coding.{reset_bit}
use Rattle.frame.specs.Fields.{stamp, more_bit, coding, sequence, noise}
use Rattle.frame.specs.Orders.{voice_refusal}
use Rattle.playout.specs.declared.Endpoint.{Endpoint}
use Rattle.endpoint.specs.declared.Arrival.{Arrival}
use Rattle.endpoint.specs.declared.Arrived.{Arrived}
use Rattle.playout.specs.Play.{Decided, decision}
use Rattle.endpoint.specs.Read.{heard_of}

-- the number, or 0 and what an arrival answers
pub record ArrivalHeard : Type 0 where
  pub refusal : ℕ
  pub due : ℕ
  pub reset : ℕ
  pub s : ℕ
  pub dropped : ℕ
  pub width : ℕ
  pub samples : List ℕ

-- that, and the record moved on
pub record Moved : Type 0 where
  pub answer : ArrivalHeard
  pub after : Endpoint

-- the paper's number and values for each case
unfoldable pub arrival_paper : Result Arrival Refusal → ArrivalHeard
arrival_paper (Ok a) = record { refusal = 0; due = a.due; reset = a.reset; s = a.s; dropped = a.dropped; width = a.width; samples = a.samples }
arrival_paper (Err r) = record { refusal = number r; due = 0; reset = 0; s = 0; dropped = 0; width = 0; samples = replicate 128 0 }

unfoldable pub arrived_paper : Arrived → Moved
arrived_paper a = record { answer = arrival_paper a.answer; after = a.after }

-- the decision on the frame's fields: 14, 18, 1 to 5 with 24, 19, 6 to 9, 17, 20, or the due time; and the record after
unfoldable pub frame_decision : Endpoint → List ℕ → ℕ → Decided
frame_decision e f clock = decision e clock (voice_refusal f) (stamp f) (sequence f) (more_bit f) (noise f)

-- the decoder is reset if the sequence is 0 and the type says so
unfoldable pub reset_of : ℕ → List ℕ → ℕ
reset_of n f = if_taken n (cond (eqb (sequence f) 0) (reset_bit (coding f)) 0) 0

unfoldable pub arrival_by : Decided → List ℕ → Moved
arrival_by d f = record {
  answer = record {
    refusal = d.refusal;
    due = d.due;
    reset = reset_of d.refusal f;
    s = (heard_of d.refusal f).s;
    dropped = (heard_of d.refusal f).dropped;
    width = (heard_of d.refusal f).width;
    samples = (heard_of d.refusal f).samples;
  };
  after = d.after;
}

unfoldable pub arrival_of : Endpoint → List ℕ → ℕ → Moved
arrival_of e f clock = arrival_by (frame_decision e f clock) f
