-- Document 01, "Origin and node": what origin and node both do to a frame: drop, stamp, address and seal it.
use Rattle.std.specs.Prelude.{ℕ, ◌+◌, ◌-◌, ◌*◌, ◌/◌, ◌%◌, ◌^◌, min, List, [], ◌∷◌, ◌++◌, length, take, drop}
use Rattle.octets.specs.Octets.{octet}
use Rattle.fcs.specs.Fcs.{fcs_octets}
use Rattle.frame.specs.Fields.{field_c, stamp}

-- the wait: the second reading of the clock less the first, modulo 2^32
abbrev pub wait_of : ℕ → ℕ → ℕ
wait_of from to = (to + 2 ^ 32 - from) % 2 ^ 32

-- the new stamp: old plus wait, at most 200
unfoldable pub stamp_after : ℕ → ℕ → ℕ
stamp_after old wait = min 200 (old + wait)

-- the blocks dropped: the lesser of C and the level
unfoldable pub dropped : ℕ → List ℕ → ℕ
dropped level f = min (field_c f) level

-- octets 1 to 8: the outgoing address, C less the blocks dropped, the new stamp; every other bit as it came (C/R and poll are 0 in a frame that 24 does not refuse)
unfoldable pub onward_head : ℕ → ℕ → ℕ → List ℕ → List ℕ
onward_head level wait addr f =
    (addr / 128 * 4 + octet 1 f % 4)
    ∷ (addr % 128 * 2 + octet 2 f % 2)
    ∷ octet 3 f
    ∷ octet 4 f
    ∷ (octet 5 f - dropped level f)
    ∷ stamp_after (stamp f) wait
    ∷ octet 7 f
    ∷ octet 8 f
    ∷ []

-- the voice field, from whose end the blocks are dropped
unfoldable pub onward_field : ℕ → List ℕ → List ℕ
onward_field level f = take (length f - 10 - 16 * dropped level f) (drop 8 f)

-- a frame: octets 1 to 8, the voice field, and the check sequence of the former
unfoldable pub framed : List ℕ → List ℕ → List ℕ
framed head voice = head ++ voice ++ fcs_octets head

-- the frame that is sent on
unfoldable pub onward : ℕ → ℕ → ℕ → List ℕ → List ℕ
onward level wait addr f = framed (onward_head level wait addr f) (onward_field level f)
