-- Request A4: what the writer and the reader answer, and what they leave in what is lent to them.
use Rattle.std.specs.Prelude.{ℕ, ◌+◌, ◌*◌, Bool, true, false, ◌||◌, List, ◌++◌, ltb, eqb, length, take, drop, Option as Maybe, Some, None, Result, Ok, Err, unwrap_or, is_some}
use Rattle.std.proofs.Math.Option.{Option, none, some}
use Rattle.refusals.specs.Refusals.{◌or_else◌, number, refuse, if_taken, refusal1, refusal16}
use Rattle.refusals.specs.declared.Refusal.{Refusal}
use Rattle.bits.specs.Bits.{bits, octets_of}
use Rattle.line.specs.Line.{Reading, next, put}
use Rattle.line.specs.declared.Found.{Found}
use Rattle.line.specs.declared.Stopped.{Stopped}

-- more bits than a buffer of n octets has
abbrev pub past : ℕ → ℕ → Bool
past n count = ltb (8 * n) count

-- a count after that a buffer of n octets, or a count itself, has no room for
abbrev pub over : ℕ → ℕ → Bool
over n count = past n count || ltb 18446744073709551615 count

-- ---- the writer

-- what is put on the line of the first count bits of buffer
abbrev pub news : List ℕ → ℕ → List ℕ → List Bool
news buffer count f = put (take count (bits buffer)) f

-- 14, 1, 16
unfoldable pub add_refusal : List ℕ → ℕ → List ℕ → ℕ
add_refusal buffer count f =
    refuse (past (length buffer) count) 14 or_else refusal1 (length f) or_else refuse (over (length buffer) (count + length (news buffer count f))) 16

pub record Added : Type 0 where
  pub refusal : ℕ
  pub count : ℕ

-- the paper's number and values for each case
abbrev pub added_paper : Result ℕ Refusal → Added
added_paper (Ok n) = record { refusal = 0; count = n }
added_paper (Err r) = record { refusal = number r; count = 0 }

-- the count after, or the number with 0
unfoldable pub add_answer : List ℕ → ℕ → List ℕ → Added
add_answer buffer count f =
    let r : ℕ = add_refusal buffer count f in
    if_taken r (record { refusal = 0; count = count + length (news buffer count f) }) (record { refusal = r; count = 0 })

-- every bit of the buffer after: what came before, what is put, and the rest as it came; or all as it came
unfoldable pub add_bits : List ℕ → ℕ → List ℕ → List Bool
add_bits buffer count f =
    let w : List Bool = news buffer count f in
    if_taken (add_refusal buffer count f) (take count (bits buffer) ++ (w ++ drop (count + length w) (bits buffer))) (bits buffer)

-- the buffer after
unfoldable pub add_line : List ℕ → ℕ → List ℕ → List ℕ
add_line buffer count f = octets_of (length buffer) (add_bits buffer count f)

-- ---- the reader

-- found: a frame was copied out. Without it and with refusal 0, there is no frame.
pub record TakenOff : Type 0 where
  pub refusal : ℕ
  pub found : Bool
  pub length : ℕ
  pub place : ℕ

-- the paper's number and values for each case
abbrev pub taken_off_paper : Result (Maybe Found) Stopped → TakenOff
taken_off_paper (Ok None) = record { refusal = 0; found = false; length = 0; place = 0 }
taken_off_paper (Ok (Some f)) = record { refusal = 0; found = true; length = f.length; place = f.place }
taken_off_paper (Err s) = record { refusal = number s.refusal; found = false; length = 0; place = unwrap_or s.place 0 }

-- whether a place stands beside a number
abbrev pub tells_place : Result (Maybe Found) Stopped → Bool
tells_place (Ok a) = false
tells_place (Err s) = is_some s.place

-- and beside which it does
abbrev pub place_told : ℕ → Bool
place_told r = eqb r 22 || eqb r 23 || eqb r 1

-- 16 last, with zeros elsewhere; after 1, 22 and 23 the place stands beside the number
unfoldable pub told : ℕ → Option Reading → TakenOff
told room none = record { refusal = 0; found = false; length = 0; place = 0 }
told room (some r) =
    if_taken r.refusal
    (if_taken (refusal16 room (length r.frame))
    (record { refusal = 0; found = true; length = length r.frame; place = r.place })
    (record { refusal = 16; found = false; length = 0; place = 0 }))
    (record { refusal = r.refusal; found = false; length = 0; place = r.place })

-- a frame that is heard, and there is room for it, stands at the front
unfoldable pub heard_out : List ℕ → Option Reading → List ℕ
heard_out out none = out
heard_out out (some r) = if_taken (r.refusal or_else refusal16 (length out) (length r.frame)) (r.frame ++ drop (length r.frame) out) out

-- 14, first: a count past the buffer, or a place past the count
abbrev pub next_refusal14 : List ℕ → ℕ → ℕ → ℕ
next_refusal14 buffer count place = refuse (past (length buffer) count || ltb count place) 14

unfoldable pub next_answer : List ℕ → ℕ → ℕ → ℕ → TakenOff
next_answer buffer count place room =
    if_taken (next_refusal14 buffer count place) (told room (next (take count (bits buffer)) place)) (record { refusal = 14; found = false; length = 0; place = 0 })

unfoldable pub next_out : List ℕ → ℕ → ℕ → List ℕ → List ℕ
next_out buffer count place out = if_taken (next_refusal14 buffer count place) (heard_out out (next (take count (bits buffer)) place)) out
