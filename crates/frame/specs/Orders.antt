-- Document 01, "Refusal numbers" and "Order", with request A5's 24: the numbers that judge a frame, one definition each, and the orders made of them.
use Rattle.std.specs.Prelude.{ℕ, ◌-◌, ◌%◌, Bool, true, false, ◌||◌, ◌&&◌, not, cond, List, ltb, eqb, length}
use Rattle.octets.specs.Octets.{octet}
use Rattle.refusals.specs.Refusals.{◌or_else◌, refuse, address_bad, refusal1}
use Rattle.fcs.specs.Fcs.{fcs_good}
use Rattle.coding.specs.Coding.{droppable_bits, frame_length, reserved}
use Rattle.frame.specs.Fields.{address, command_bit, poll_bit, control, is_voice, field_m, field_c, stamp, coding, covered}

-- bit 1 of octet 1 not 0, of octet 2 not 1, or address outside range
abbrev pub refusal2 : List ℕ → ℕ
refusal2 f = refuse (not (eqb (octet 1 f % 2) 0) || not (eqb (octet 2 f % 2) 1) || address_bad (address f)) 2

-- octet 3, poll bit aside, neither 239 nor 3
abbrev pub refusal3 : List ℕ → ℕ
refusal3 f = refuse (not (eqb (control f) 239) && not (eqb (control f) 3)) 3

-- C/R or poll bit set
abbrev pub refusal24 : List ℕ → ℕ
refusal24 f = refuse (not (eqb (command_bit f) 0) || not (eqb (poll_bit f) 0)) 24

-- check sequence wrong
abbrev pub refusal4 : List ℕ → ℕ
refusal4 f = refuse (not (fcs_good (covered f) f)) 4

-- octet 4 not 68
abbrev pub refusal5 : List ℕ → ℕ
refusal5 f = refuse (not (eqb (octet 4 f) 68)) 5

-- coding type reserved (voice only)
abbrev pub refusal6 : List ℕ → ℕ
refusal6 f = refuse (is_voice f && reserved (coding f)) 6

-- M, C not legal: M is D and C at most M (signalling: both 0)
abbrev pub refusal7 : List ℕ → ℕ
refusal7 f = refuse (not (eqb (field_m f) (cond (is_voice f) (droppable_bits (coding f)) 0)) || ltb (field_m f) (field_c f)) 7

-- 16(S-(M-C))+10 (signalling: 10)
abbrev pub legal_length : List ℕ → ℕ
legal_length f = cond (is_voice f) (frame_length (coding f) (field_m f - field_c f)) 10

-- length not that
abbrev pub refusal8 : List ℕ → ℕ
refusal8 f = refuse (not (eqb (length f) (legal_length f))) 8

-- stamp above 200
abbrev pub refusal9 : List ℕ → ℕ
refusal9 f = refuse (ltb 200 (stamp f)) 9

-- signalling frame in a voice call, or the reverse
abbrev pub refusal19 : Bool → List ℕ → ℕ
refusal19 voiceCall f = refuse (cond voiceCall (not (is_voice f)) (is_voice f)) 19

-- 1 to 5 with 24, which comes after 3
unfoldable pub link_refusal : List ℕ → ℕ
link_refusal f = refusal1 (length f) or_else refusal2 f or_else refusal3 f or_else refusal24 f or_else refusal4 f or_else refusal5 f

-- 7, 8, 9
unfoldable pub layout_refusal : List ℕ → ℕ
layout_refusal f = refusal7 f or_else refusal8 f or_else refusal9 f

-- a node: 1 to 5 with 24, then 6 (voice only), 7, 8, 9
unfoldable pub taken_refusal : List ℕ → ℕ
taken_refusal f = link_refusal f or_else refusal6 f or_else layout_refusal f

-- voice reader: 1 to 5 with 24, 19, 6 to 9
unfoldable pub voice_refusal : List ℕ → ℕ
voice_refusal f = link_refusal f or_else refusal19 true f or_else refusal6 f or_else layout_refusal f

-- signalling reader: 1 to 5 with 24, 19, 7, 8, 9
unfoldable pub signal_refusal : List ℕ → ℕ
signal_refusal f = link_refusal f or_else refusal19 false f or_else layout_refusal f
