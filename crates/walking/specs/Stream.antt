-- The stream: records are taken from a buffer that holds the longest of them whole, or all that is left of the input.
use Rattle.std.specs.Prelude.{ℕ, ◌-◌, ◌≤◌, ◌≡◌, Bool, true, false, ◌&&◌, ◌||◌, List, [], ◌++◌, ltb, leb, length, take, drop}
use Rattle.walking.specs.Walk.{Carried, Prints}
use Rattle.walking.specs.Held.{carried_of}
use Rattle.walking.specs.declared.Flow.{Flow}

-- no record is cut by the buffer alone: the longest takes 2 + 1,024 octets
abbrev pub whole : ℕ → Bool → Bool
whole left ended = leb 1026 left || ended && ltb 0 left

-- a step can be made: the record can be counted, and its line has room
abbrev pub ready : ℕ → ℕ → ℕ → Bool → Bool
ready number left room ended = ltb number 18446744073709551615 && leb 147 room && whole left ended

-- the octets in the buffer that are not taken yet
abbrev pub waiting : Flow → List ℕ → List ℕ
waiting f buffer = take (f.have - f.from) (drop f.from buffer)

-- what is printed from there on: nothing once the walk is over
abbrev pub PrintsOn : Bool → Carried → List ℕ → List ℕ → Type 0
PrintsOn true s r lines = Prints s r lines
PrintsOn false s r lines = lines ≡ []

-- a pass over the buffer: what it adds to the output and what is printed from there on are together what was to be printed
pub record Passed (f : Flow) (input out : List ℕ) (out' : List ℕ) (r : Flow) : Type 0 where
  pub have : r.have ≡ f.have
  pub from : r.from ≤ r.have
  pub end : r.end ≤ length out
  pub collected : take f.end out' ≡ take f.end out
  pub prints : (more lines : List ℕ) → (f.ended ≡ true → more ≡ []) → PrintsOn r.going (carried_of r.state) (waiting r input ++ more) lines
      → Prints (carried_of f.state) (waiting f input ++ more) (drop f.end (take r.end out') ++ lines)

-- a read: what waited waits still, with what was read behind it, and nothing else is changed
pub record Filled (f : Flow) (before after : List ℕ) (r : Flow) : Type 0 where
  pub from : r.from ≤ r.have
  pub have : r.have ≤ length before
  pub state : r.state ≡ f.state
  pub end : r.end ≡ f.end
  pub going : r.going ≡ f.going
  pub waits : take (f.have - f.from) (waiting r after) ≡ waiting f before

-- a write: nothing but what was collected is changed
pub record Flushed (f : Flow) (out : List ℕ) (r : Flow) : Type 0 where
  pub state : r.state ≡ f.state
  pub from : r.from ≡ f.from
  pub have : r.have ≡ f.have
  pub ended : r.ended ≡ f.ended
  pub end : r.end ≤ length out
