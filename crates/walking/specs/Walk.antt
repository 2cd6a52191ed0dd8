-- Document 01, "Examples", the program `walk`: what a record does to what is carried on, and which line it prints.
use Rattle.std.specs.Prelude.{ℕ, ◌+◌, ◌*◌, ◌<◌, ◌≡◌, Bool, true, false, ◌&&◌, ◌||◌, cond, List, [], ◌∷◌, ◌++◌, ltb, leb, eqb, length, take, drop}
use Rattle.octets.specs.Octets.{octet, two}
use Rattle.octets.specs.Records.{following, kind}
use Rattle.refusals.specs.Refusals.{if_taken}
use Rattle.frame.specs.Fields.{stamp, field_c}
use Rattle.onward.specs.Onward.{wait_of, onward}
use Rattle.node.specs.Node.{forward_refusal}
use Rattle.origin.specs.Burst.{step_numbered}
use Rattle.origin.specs.Send.{send_refusal, send_written, send_sseq}
use Rattle.origin.specs.declared.Step.{Step}
use Rattle.playout.specs.Play.{fresh_record}
use Rattle.endpoint.specs.Arrival.{Moved, arrival_of}
use Rattle.playout.specs.declared.Endpoint.{Endpoint}
use Rattle.walking.specs.Text.{line, stop_line}

-- carried on: how many records there were, SSEQ, the endpoint's record, and the frame made last
pub record Carried : Type 0 where
  pub number : ℕ
  pub sseq : ℕ
  pub endpoint : Endpoint
  pub frame : List ℕ

-- B is 100, and the endpoint's record is fresh at first; before any, the frame is empty
abbrev pub at_first : Carried
at_first = record { number = 0; sseq = 0; endpoint = fresh_record 100; frame = [] }

-- four octets from octet n on, little-endian
abbrev pub four : ℕ → List ℕ → ℕ
four n r = two n r + 65536 * two (n + 2) r

-- what is left of the input begins with a record: its length is 7 for kind 2, 6 for kind 3, and 10 to 1,024 for kind 1, whose step is 0, 1 or 2
unfoldable pub allowed : ℕ → ℕ → ℕ → Bool
allowed kind n step =
    eqb kind 1 && leb 10 n && leb n 1024 && ltb step 3
    || eqb kind 2 && eqb n 7
    || eqb kind 3 && eqb n 6

-- all of it is there
unfoldable pub legal : List ℕ → Bool
legal r = allowed (kind r) (following r) (octet 5 r) && leb (2 + following r) (length r)

-- that record, without what comes after it
abbrev pub first : List ℕ → List ℕ
first r = take (2 + following r) r

-- what a record carries on, and the numbers of its line
pub record Outcome : Type 0 where
  pub carried : Carried
  pub told : List ℕ

-- record number, kind and refusal (0 when done); when done, also the frame's length and stamp, and what comes last
unfoldable pub told : ℕ → ℕ → ℕ → List ℕ → List ℕ → List ℕ
told number kind refusal frame last = number ∷ kind ∷ if_taken refusal (0 ∷ length frame ∷ stamp frame ∷ last) (refusal ∷ [])

-- kinds 1 and 2: a frame that is written is the frame made last, and C comes last
unfoldable pub made : Carried → ℕ → ℕ → ℕ → List ℕ → Outcome
made s kind sseq refusal written = record {
  carried = record { number = s.number; sseq = sseq; endpoint = s.endpoint; frame = if_taken refusal written s.frame };
  told = told s.number kind refusal written (field_c written ∷ []);
}

-- the address, and room for any voice frame: 8 blocks
abbrev pub walk_address : ℕ
walk_address = 128

abbrev pub room : ℕ
room = 138

-- kind 1: step, coding, noise, level, wait, samples. A wait is run as clock 0 to that number
abbrev pub sending : {A : Type 0} → (ℕ → Step → ℕ → ℕ → List ℕ → ℕ → ℕ → ℕ → A) → Carried → List ℕ → A
sending call s r = call s.sseq (step_numbered (octet 5 r)) (octet 6 r) (octet 7 r) (drop 12 r) (octet 8 r) (wait_of 0 (four 9 r)) walk_address

unfoldable pub by_origin : Carried → List ℕ → Outcome
by_origin s r = made s 1 (sending send_sseq s r room) (sending send_refusal s r room) (sending send_written s r)

-- kind 2: level, wait
abbrev pub forwarding : {A : Type 0} → (ℕ → ℕ → ℕ → List ℕ → A) → Carried → List ℕ → A
forwarding call s r = call (octet 5 r) (wait_of 0 (four 6 r)) walk_address s.frame

unfoldable pub by_node : Carried → List ℕ → Outcome
by_node s r = made s 2 s.sseq (forwarding forward_refusal s r room) (forwarding onward s r)

-- kind 3: play clock. Due and blocks dropped come last
abbrev pub arriving : Carried → List ℕ → Moved
arriving s r = arrival_of s.endpoint s.frame (four 5 r)

unfoldable pub by_endpoint : Carried → List ℕ → Outcome
by_endpoint s r = record {
  carried = record { number = s.number; sseq = s.sseq; endpoint = (arriving s r).after; frame = s.frame };
  told = told s.number 3 (arriving s r).answer.refusal s.frame ((arriving s r).answer.due ∷ (arriving s r).answer.dropped ∷ []);
}

unfoldable pub outcome : Carried → List ℕ → Outcome
outcome s r = cond (eqb (kind r) 1) (by_origin s r) (cond (eqb (kind r) 2) (by_node s r) (by_endpoint s r))

-- the record counted
abbrev pub counted : Carried → Carried
counted s = record { number = s.number + 1; sseq = s.sseq; endpoint = s.endpoint; frame = s.frame }

-- what a record does: what is carried on, how many octets it took, its line, and whether the walk goes on
pub record Effect : Type 0 where
  pub carried : Carried
  pub taken : ℕ
  pub line : List ℕ
  pub going : Bool

unfoldable pub step : Carried → List ℕ → Effect
step s r =
    cond (legal r)
    (record { carried = (outcome (counted s) (first r)).carried; taken = 2 + following r; line = line (outcome (counted s) (first r)).told; going = true })
    (record { carried = s; taken = 0; line = stop_line (s.number + 1); going = false })

-- what is printed of all that is left of the input: the line of each record, up to the end or a stop
pub data Prints : Carried → List ℕ → List ℕ → Type 0 where
  ended : {s : Carried} → Prints s [] []
  stopped : {s : Carried} {r : List ℕ} → 0 < length r → (step s r).going ≡ false → Prints s r (step s r).line
  gone_on : {s : Carried} {r lines : List ℕ} → (step s r).going ≡ true
      → Prints (step s r).carried (drop (step s r).taken r) lines → Prints s r ((step s r).line ++ lines)
