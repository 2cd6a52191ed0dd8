-- Request A8: the records of a tray, the node's call on the frame of each in turn, and what the whole call answers and leaves.
use Rattle.std.specs.Prelude.{ℕ, zero, suc, ◌+◌, ◌-◌, ◌/◌, ◌%◌, Bool, ◌&&◌, ◌||◌, cond, List, [], ◌∷◌, ◌++◌, ltb, leb, eqb, length, take, drop, Result, Ok, Err}
use Rattle.octets.specs.Records.{following, kind}
use Rattle.refusals.specs.Refusals.{number, refuse, if_taken}
use Rattle.refusals.specs.declared.Refusal.{Refusal}
use Rattle.onward.specs.Onward.{onward}
use Rattle.onward.specs.Sent.{sent_buffer}
use Rattle.node.specs.Node.{forward_refusal}
use Rattle.tray.specs.declared.Forwarded.{Forwarded as Done}

-- what is left of a tray begins with a record: of kind 1, for a frame, of a length not under 2, and not cut short
unfoldable pub whole : List ℕ → Bool
whole r = eqb (kind r) 1 && leb 2 (following r) && leb (2 + following r) (length r)

-- its frame
unfoldable pub frame : List ℕ → List ℕ
frame r = take (following r - 2) (drop 4 r)

-- the frames of such records, one behind the other, and what is left behind them that does not begin with one
pub record Read : Type 0 where
  pub frames : List (List ℕ)
  pub left : List ℕ

abbrev pub with_frame : List ℕ → Read → Read
with_frame f t = record { frames = f ∷ t.frames; left = t.left }

-- n octets, of the record before, are passed over first
unfoldable pub read_past : List ℕ → ℕ → Read
read_past [] n = record { frames = []; left = [] }
read_past (x ∷ r) zero =
    cond (whole (x ∷ r))
    (with_frame (frame (x ∷ r)) (read_past r (1 + following (x ∷ r))))
    (record { frames = []; left = x ∷ r })
read_past (x ∷ r) (suc n) = read_past r n

abbrev pub read : List ℕ → Read
read tray = read_past tray 0

-- 27, for the whole tray: something is left that is no record, or the list is shorter than the records are many
unfoldable pub tray_refusal : List ℕ → ℕ → ℕ
tray_refusal tray places = refuse (ltb 0 (length (read tray).left) || ltb places (length (read tray).frames)) 27

-- a frame's record: the four octets before a frame of n octets, and the frame
abbrev pub record_head : ℕ → List ℕ
record_head n = (n + 2) % 256 ∷ (n + 2) / 256 % 256 ∷ 1 ∷ 0 ∷ []

unfoldable pub record_of : List ℕ → List ℕ
record_of f = record_head (length f) ++ f

unfoldable pub records_of : List (List ℕ) → List ℕ
records_of [] = []
records_of (f ∷ fs) = record_of f ++ records_of fs

-- what becomes of frames: one refusal number for each, and those that the node sends on
pub record Passed : Type 0 where
  pub refusals : List ℕ
  pub sent : List (List ℕ)

abbrev pub with_first : ℕ → List (List ℕ) → Passed → Passed
with_first refusal sent p = record { refusals = refusal ∷ p.refusals; sent = sent ++ p.sent }

-- what the whole call answers: the refusal of the tray, the records counted, and the octets written
pub record Forwarded : Type 0 where
  pub refusal : ℕ
  pub records : ℕ
  pub written : ℕ

-- the paper's number and values for each case
abbrev pub forwarded_paper : Result Done Refusal → Forwarded
forwarded_paper (Ok a) = record { refusal = 0; records = a.records; written = a.written }
forwarded_paper (Err r) = record { refusal = number r; records = 0; written = 0 }

module _ (level wait addr : ℕ) where
  -- the node's number, with the room that is left after the record's four octets: none where fewer are left
  unfoldable pub frame_refusal : List ℕ → ℕ → ℕ
  frame_refusal f room = forward_refusal level wait addr f (room - 4)

  -- the frame that the node sends on; of a refused one nothing
  unfoldable pub sent_on : List ℕ → ℕ → List (List ℕ)
  sent_on f room = if_taken (frame_refusal f room) (onward level wait addr f ∷ []) []

  -- each frame in turn, with the room that is then left
  unfoldable pub passed : List (List ℕ) → ℕ → Passed
  passed [] room = record { refusals = []; sent = [] }
  passed (f ∷ fs) room =
      with_first (frame_refusal f room) (sent_on f room) (passed fs (room - length (records_of (sent_on f room))))

  -- the list of a tray, and its outgoing records
  abbrev pub numbers : List ℕ → ℕ → List ℕ
  numbers tray room = (passed (read tray).frames room).refusals

  abbrev pub outgoing : List ℕ → ℕ → List ℕ
  outgoing tray room = records_of (passed (read tray).frames room).sent

  unfoldable pub tray_answer : List ℕ → List ℕ → List ℕ → Forwarded
  tray_answer tray out list =
      if_taken (tray_refusal tray (length list))
      (record { refusal = 0; records = length (read tray).frames; written = length (outgoing tray (length out)) })
      (record { refusal = tray_refusal tray (length list); records = 0; written = 0 })

  -- each written to the front, and the rest as it came; where the tray is refused all as it came
  unfoldable pub tray_buffer : List ℕ → List ℕ → List ℕ → List ℕ
  tray_buffer tray out list = sent_buffer (tray_refusal tray (length list)) (outgoing tray (length out)) out

  unfoldable pub tray_list : List ℕ → List ℕ → List ℕ → List ℕ
  tray_list tray out list = sent_buffer (tray_refusal tray (length list)) (numbers tray (length out)) list
