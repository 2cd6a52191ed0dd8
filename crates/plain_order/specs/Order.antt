-- Document 01, "Refusal numbers" and "Order", with request A5's 24: what is wrong with a frame, in the table's words, and the order in which node and voice reader ask.
use Rattle.std.specs.Prelude.{ℕ, ◌-◌, ◌%◌, Bool, ◌||◌, ◌&&◌, not, cond, List, ltb, eqb, length, take}
use Rattle.octets.specs.Octets.{octet, two}
use Rattle.refusals.specs.Refusals.{◌or_else◌, address_bad}
use Rattle.coding.specs.Coding.{droppable_bits, frame_length, reserved}
use Rattle.frame.specs.Fields.{address, command_bit, poll_bit, control, is_voice, field_m, field_c, stamp, coding, covered}
use Rattle.plain_check.specs.Check.{check_octets}

-- frame under 10 or over 490 octets
unfoldable pub length_wrong : List ℕ → Bool
length_wrong f = ltb (length f) 10 || ltb 490 (length f)

-- bit 1 of octet 1 not 0, of octet 2 not 1, or address outside range
unfoldable pub address_wrong : List ℕ → Bool
address_wrong f = not (eqb (octet 1 f % 2) 0) || not (eqb (octet 2 f % 2) 1) || address_bad (address f)

-- octet 3, poll bit aside, neither 239 nor 3
unfoldable pub control_wrong : List ℕ → Bool
control_wrong f = not (eqb (control f) 239) && not (eqb (control f) 3)

-- C/R or poll bit set
unfoldable pub command_or_poll : List ℕ → Bool
command_or_poll f = not (eqb (command_bit f) 0) || not (eqb (poll_bit f) 0)

-- check sequence wrong: the last two octets are not that of what it covers
unfoldable pub check_wrong : List ℕ → Bool
check_wrong f = not (eqb (two (length f - 1) f) (two 1 (check_octets (take (covered f) f))))

-- octet 4 not 68
unfoldable pub protocol_wrong : List ℕ → Bool
protocol_wrong f = not (eqb (octet 4 f) 68)

-- coding type reserved (voice only)
unfoldable pub coding_wrong : List ℕ → Bool
coding_wrong f = is_voice f && reserved (coding f)

-- M, C not legal: M is not D, or C is above M (signalling: not both 0)
unfoldable pub dropping_wrong : List ℕ → Bool
dropping_wrong f = not (eqb (field_m f) (cond (is_voice f) (droppable_bits (coding f)) 0)) || ltb (field_m f) (field_c f)

-- length not 16(S-(M-C))+10 (signalling: not 10)
unfoldable pub size_wrong : List ℕ → Bool
size_wrong f = not (eqb (length f) (cond (is_voice f) (frame_length (coding f) (field_m f - field_c f)) 10))

-- stamp above 200
unfoldable pub stamp_wrong : List ℕ → Bool
stamp_wrong f = ltb 200 (stamp f)

-- one question after another: 1 to 5, and 24 after 3
unfoldable pub link_order : List ℕ → ℕ
link_order f =
    cond (length_wrong f) 1
    (cond (address_wrong f) 2
    (cond (control_wrong f) 3
    (cond (command_or_poll f) 24
    (cond (check_wrong f) 4
    (cond (protocol_wrong f) 5 0)))))

-- 7, 8, 9
unfoldable pub layout_order : List ℕ → ℕ
layout_order f =
    cond (dropping_wrong f) 7
    (cond (size_wrong f) 8
    (cond (stamp_wrong f) 9 0))

-- a node: 1 to 5 with 24, then 6 (voice only), 7, 8, 9
unfoldable pub taken_order : List ℕ → ℕ
taken_order f = link_order f or_else cond (coding_wrong f) 6 (layout_order f)

-- voice reader: 1 to 5 with 24, 19 for a signalling frame, 6 to 9
unfoldable pub read_order : List ℕ → ℕ
read_order f = link_order f or_else cond (not (is_voice f)) 19 (cond (coding_wrong f) 6 (layout_order f))
