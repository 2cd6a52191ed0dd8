-- How the code holds what is carried on and told: the kinds of record, a frame as the front of a buffer, a line's numbers as arrays.
use Rattle.std.specs.Prelude.{ℕ, ◌≡◌, cond, List, eqb, take, is_some, Result, Ok, Err}
use Rattle.std.specs.Option.{unwrap_or}
use Rattle.walking.specs.Text.{Put}
use Rattle.walking.specs.Walk.{Carried, Outcome, Effect}
use Rattle.walking.specs.declared.Kind.{Kind}
use Rattle.walking.specs.declared.Kind.TheVariants.{Origin, Node, Arrival}
use Rattle.walking.specs.declared.Frame.{Frame}
use Rattle.walking.specs.declared.State.{State}
use Rattle.walking.specs.declared.Told.{Told}
use Rattle.walking.specs.declared.Told.TheVariants.{Refused, Written, Arrived}
use Rattle.walking.specs.declared.Outcome as code
use Rattle.walking.specs.declared.Stepped.{Stepped}

-- a kind's number, and what a number names
abbrev pub kind_number : Kind → ℕ
kind_number Origin = 1
kind_number Node = 2
kind_number Arrival = 3

abbrev pub KindOf : ℕ → Result Kind ℕ → Type 0
KindOf n r = r ≡ cond (eqb n 1) (Ok Origin) (cond (eqb n 2) (Ok Node) (cond (eqb n 3) (Ok Arrival) (Err n)))

abbrev pub frame_of : Frame → List ℕ
frame_of f = take f.length f.buffer

abbrev pub carried_of : State → Carried
carried_of s = record { number = s.number; sseq = s.sseq; endpoint = s.endpoint; frame = frame_of s.frame }

abbrev pub told_of : Told → List ℕ
told_of (Refused numbers) = numbers
told_of (Written numbers) = numbers
told_of (Arrived numbers) = numbers

abbrev pub outcome_of : code.Outcome → Outcome
outcome_of o = record { carried = carried_of o.state; told = told_of o.told }

-- a step's answer and what it leaves in the buffer, at a place of which its line is put
pub record Stepping (s : Effect) (at : ℕ) (before after : List ℕ) (r : Stepped) : Type 0 where
  pub carried : carried_of r.state ≡ s.carried
  pub taken : unwrap_or r.taken 0 ≡ s.taken
  pub going : is_some r.taken ≡ s.going
  pub line : Put s.line 147 at r.end before after
