-- Request A4 over the calls: frames added in turn to a line, and frames taken off it, each call given what the last one left.
use Rattle.std.specs.Prelude.{ℕ, zero, suc, ◌+◌, ◌*◌, ◌≤◌, ◌<◌, ◌≡◌, Bool, false, ◌&&◌, not, cond, List, [], ◌∷◌, ◌++◌, map, eqb, length, take, get_or}
use Rattle.refusals.specs.Refusals.{refusal1}
use Rattle.bits.specs.Bits.{bits}
use Rattle.line.specs.Line.{put}
use Rattle.line.specs.Calls.{TakenOff, over, add_answer, add_line, next_answer, next_out}

-- it holds of each of a list
abbrev pub Each : {A : Type 0} → (A → Type 0) → List A → Type 0
Each P [] = Unit {0}
Each P (x ∷ xs) = P x × Each P xs

-- ---- writing

-- the line after the frames, one after the other
unfoldable pub put_all : List Bool → List (List ℕ) → List Bool
put_all line [] = line
put_all line (f ∷ fs) = put_all (line ++ put line f) fs

-- octets, 10 to 490 of them
pub record Frame (f : List ℕ) : Type 0 where
  pub size : refusal1 (length f) ≡ 0
  pub octet : (i : ℕ) → get_or f i 0 < 256

abbrev pub Frames : List (List ℕ) → Type 0
Frames = Each Frame

-- the line's buffer and count after calls of `add`, one for each frame
unfoldable pub buffer_after : List ℕ → ℕ → List (List ℕ) → List ℕ
buffer_after buffer count [] = buffer
buffer_after buffer count (f ∷ fs) = buffer_after (add_line buffer count f) (add_answer buffer count f).count fs

unfoldable pub count_after : List ℕ → ℕ → List (List ℕ) → ℕ
count_after buffer count [] = count
count_after buffer count (f ∷ fs) = count_after (add_line buffer count f) (add_answer buffer count f).count fs

-- none of them is refused
unfoldable pub AllAdded : List ℕ → ℕ → List (List ℕ) → Type 0
AllAdded buffer count [] = Unit {0}
AllAdded buffer count (f ∷ fs) = ((add_answer buffer count f).refusal ≡ 0) × AllAdded (add_line buffer count f) (add_answer buffer count f).count fs

-- a buffer has room for the frames behind the line of its first count bits
abbrev pub Room : List ℕ → ℕ → List (List ℕ) → Type 0
Room buffer count fs = over (length buffer) (length (put_all (take count (bits buffer)) fs)) ≡ false

-- every frame is added: the line is what was there with the frames behind it, and the count is its length
pub record Written (buffer : List ℕ) (count : ℕ) (fs : List (List ℕ)) : Type 0 where
  pub all : AllAdded buffer count fs
  pub line : take (count_after buffer count fs) (bits (buffer_after buffer count fs)) ≡ put_all (take count (bits buffer)) fs
  pub long : count_after buffer count fs ≡ length (put_all (take count (bits buffer)) fs)
  pub within : count_after buffer count fs ≤ 8 * length (buffer_after buffer count fs)

-- ---- reading

-- what is lent to the calls: a buffer whose first count bits are the line, and an out with room for any frame
pub record Lent (line : List Bool) (buffer : List ℕ) (count : ℕ) (out : List ℕ) : Type 0 where
  pub within : count ≤ 8 * length buffer
  pub is : take count (bits buffer) ≡ line
  pub room : 490 ≤ length out

-- one call of `next`: its answer, and as many octets of out as it says
pub record Call : Type 0 where
  pub answer : TakenOff
  pub heard : List ℕ

-- no frame: which is no refusal
abbrev pub no_frame : TakenOff → Bool
no_frame a = eqb a.refusal 0 && not a.found

-- at most n calls of `next`, the first from a place, each other from the place that the one before it answered, until there is no frame
unfoldable pub calls : ℕ → List ℕ → ℕ → ℕ → List ℕ → List Call
calls zero buffer count place out = []
calls (suc n) buffer count place out =
    let a : TakenOff = next_answer buffer count place (length out) in
    let after : List ℕ = next_out buffer count place out in
    cond (no_frame a) [] (record { answer = a; heard = take a.length after } ∷ calls n buffer count a.place after)

-- what a call says, its place aside: a number and octets
abbrev pub said : Call → ℕ × List ℕ
said c = (c.answer.refusal, c.heard)

-- a frame
abbrev pub whole : List ℕ → ℕ × List ℕ
whole f = (0, f)

-- the same call on a line that has d more bits before it
abbrev pub later_call : ℕ → Call → Call
later_call d c = record {
  answer = record { refusal = c.answer.refusal; found = c.answer.found; length = c.answer.length; place = d + c.answer.place };
  heard = c.heard;
}

-- calls on a line of d damaged bits and a rest, from place p on: what the damage gives, all of it ended where the rest begins or
-- before, and then, however many more calls are made, what as many on the rest alone give
pub record Recovers (d : ℕ) (buffer : List ℕ) (count p : ℕ) (out : List ℕ) (rest : ℕ → List Call) : Type 0 where
  pub damage : List Call
  pub first : Each (λ c. c.answer.place ≤ d) damage
  pub then : (n : ℕ) → calls (length damage + n) buffer count p out ≡ damage ++ map (later_call d) (rest n)
