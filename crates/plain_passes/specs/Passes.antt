-- G.764, sections 5.2 and 5.4, and document 01, "Origin and node": what is done to a frame on its way, one pass after another.
-- Octets are counted from 1, so that `set f 5 x` is f with x for its octet 6.
use Rattle.std.specs.Prelude.{ℕ, ◌+◌, ◌-◌, ◌*◌, ◌/◌, ◌%◌, ◌^◌, min, List, ◌++◌, length, take, drop, slice_set}
use Rattle.octets.specs.Octets.{octet}
use Rattle.plain_check.specs.Check.{check_octets}

-- octets 1 to 8, the voice field, and the check sequence, which is the last two octets
abbrev pub header : List ℕ → List ℕ
header f = take 8 f

abbrev pub voice_field : List ℕ → List ℕ
voice_field f = take (length f - 10) (drop 8 f)

abbrev pub trailer : List ℕ → List ℕ
trailer f = drop (length f - 2) f

-- the blocks to be dropped: as many as the level says, but at most C, bits 1 and 2 of octet 5
unfoldable pub blocks_dropped : ℕ → List ℕ → ℕ
blocks_dropped level f = min (octet 5 f % 4) level

-- one: blocks of 16 octets are dropped from the end of the voice field, and C is lowered by their number
unfoldable pub drop_pass : ℕ → List ℕ → List ℕ
drop_pass level f =
    slice_set (header f) 4 (octet 5 f - blocks_dropped level f)
    ++ take (length f - 10 - 16 * blocks_dropped level f) (voice_field f)
    ++ trailer f

-- two: the wait is added to the time stamp, which stops at 200
unfoldable pub stamp_pass : ℕ → List ℕ → List ℕ
stamp_pass wait f = slice_set f 5 (min 200 (octet 6 f + wait))

-- three: the outgoing address, its upper six bits into octet 1 and its lower seven into octet 2, whose other bits stay
unfoldable pub address_pass : ℕ → List ℕ → List ℕ
address_pass addr f = slice_set (slice_set f 0 (addr / 128 * 4 + octet 1 f % 4)) 1 (addr % 128 * 2 + octet 2 f % 2)

-- four: the check sequence of octets 1 to 8 is put at the end
unfoldable pub seal_pass : List ℕ → List ℕ
seal_pass f = take (length f - 2) f ++ check_octets (take 8 f)

-- one after another
unfoldable pub passed : ℕ → ℕ → ℕ → List ℕ → List ℕ
passed level wait addr f = seal_pass (address_pass addr (stamp_pass wait (drop_pass level f)))

-- the wait: the second reading of the clock less the first, and the clock rolls over at 2^32
abbrev pub wait_between : ℕ → ℕ → ℕ
wait_between from to = (to + 2 ^ 32 - from) % 2 ^ 32
