-- Requests A6 and A7: the waiting room as a plain list, the first to leave first.
use Rattle.std.specs.Prelude.{ℕ, ◌+◌, ◌||◌, List, [], ◌∷◌, ◌++◌, ltb, leb, eqb, length, drop}
use Rattle.refusals.specs.Refusals.{◌or_else◌, refuse, if_taken}
use Rattle.frame.specs.Orders.{taken_refusal}
use Rattle.onward.specs.Onward.{wait_of}
use Rattle.onward.specs.Sent.{Sent}
use Rattle.node.specs.Node.{forward_answer, forward_buffer}
use Rattle.totals.specs.Totals.{gives}

-- a frame that waits, with the clock reading at its arrival
pub record Kept : Type 0 where
  pub octets : List ℕ
  pub reading : ℕ

abbrev pub kept : List ℕ → ℕ → Kept
kept f clock = record { octets = f; reading = clock }

-- the lengths of those that wait, together
unfoldable pub together : List Kept → ℕ
together [] = 0
together (k ∷ w) = length k.octets + together w

-- no room in n octets: 32 are waiting, or their lengths and the frame's own together pass n
abbrev pub refusal25 : ℕ → List Kept → List ℕ → ℕ
refusal25 n w f = refuse (leb 32 (length w) || ltb n (together w + length f)) 25

-- on entry: the frame's own checks (1 to 9 in the node's order, with 24), then 25
abbrev pub enter_order : ℕ → List Kept → List ℕ → ℕ
enter_order n w f = taken_refusal f or_else refusal25 n w f

-- nothing waiting
abbrev pub refusal26 : List Kept → ℕ
refusal26 w = refuse (eqb (length w) 0) 26

-- the first to leave; where nothing waits, an empty frame
abbrev pub first_of : List Kept → Kept
first_of [] = kept [] 0
first_of (k ∷ w) = k

-- what the node's own call answers on the first, its wait running from its arrival to the present reading, and leaves in the buffer
unfoldable pub first_answer : List Kept → ℕ → ℕ → ℕ → List ℕ → Sent
first_answer w to level addr out = forward_answer level (wait_of (first_of w).reading to) addr (first_of w).octets out

unfoldable pub first_buffer : List Kept → ℕ → ℕ → ℕ → List ℕ → List ℕ
first_buffer w to level addr out = forward_buffer level (wait_of (first_of w).reading to) addr (first_of w).octets out

-- on taking, once the numbers before the node's give r: the node's own call, or that number
abbrev pub sent_past : ℕ → List Kept → ℕ → ℕ → ℕ → List ℕ → Sent
sent_past r w to level addr out = if_taken r (first_answer w to level addr out) (record { refusal = r; length = 0 })

abbrev pub buffer_past : ℕ → List Kept → ℕ → ℕ → ℕ → List ℕ → List ℕ
buffer_past r w to level addr out = if_taken r (first_buffer w to level addr out) out

-- what waits after a frame came, and after one was to go: refused, those that waited
abbrev pub entered : ℕ → List Kept → List ℕ → ℕ → List Kept
entered refusal w f clock = if_taken refusal (w ++ kept f clock ∷ []) w

abbrev pub left : ℕ → List Kept → List Kept
left refusal w = if_taken refusal (drop 1 w) w

-- request A7: the octets that a level gives back of all that wait, the full sum
unfoldable pub gives_all : ℕ → List Kept → ℕ
gives_all level [] = 0
gives_all level (k ∷ w) = gives level k.octets + gives_all level w
