-- G.764, section 5.1 and Figure 2, and document 01, "Frame layout" and "Order": the frame as the origin makes it, with C = D and stamp 0, and what it refuses.
use Rattle.std.specs.Prelude.{ℕ, ◌+◌, ◌*◌, ◌^◌, min, Bool, false, not, ◌||◌, cond, List, [], ◌∷◌, ◌++◌, ltb, leb, eqb, length}
use Rattle.refusals.specs.Refusals.{◌or_else◌, address_bad}
use Rattle.coding.specs.Coding.{sample_bits, droppable_bits, frame_length, reserved}
use Rattle.origin.specs.declared.Step.{Step}
use Rattle.origin.specs.declared.Step.TheVariants.{Start, Data, Stop}
use Rattle.plain_blocks.specs.Figure7.{picked_blocks}

-- octets 1 to 8 as they are made
unfoldable pub plain_header : ℕ → ℕ → ℕ → ℕ → List ℕ
plain_header coding more sequence noise =
    0  -- the address is still to be written
    ∷ 1  -- and bit 1 of octet 2 is 1
    ∷ 239  -- UIH: voice
    ∷ 68  -- protocol discriminator
    ∷ (droppable_bits coding * 16 + droppable_bits coding)  -- block dropping indicator: M and C are D
    ∷ 0  -- time stamp
    ∷ (more * 128 + coding)  -- more bit, coding type
    ∷ (sequence * 16 + noise)  -- sequence number, noise
    ∷ []

-- with all the blocks of the samples, and two octets for the check sequence, which the last pass writes
unfoldable pub plain_made : ℕ → ℕ → ℕ → ℕ → List ℕ → List ℕ
plain_made coding more sequence noise samples =
    plain_header coding more sequence noise ++ picked_blocks (sample_bits coding) samples (sample_bits coding) ++ 0 ∷ 0 ∷ []

-- START inside a burst, DATA or STOP outside
unfoldable pub out_of_turn : Step → ℕ → Bool
out_of_turn Start sseq = not (eqb sseq 0)
out_of_turn Data sseq = eqb sseq 0
out_of_turn Stop sseq = eqb sseq 0

-- one of them is m or more
unfoldable pub too_large : ℕ → List ℕ → Bool
too_large m [] = false
too_large m (x ∷ xs) = leb m x || too_large m xs

-- not 128 samples, or one is 2^S or more
unfoldable pub samples_wrong : List ℕ → ℕ → Bool
samples_wrong samples S = not (eqb (length samples) 128) || too_large (2 ^ S) samples

-- what is wrong with the packet: SSEQ above 15; the step out of turn; coding type reserved or above 31; noise above 15; the samples
unfoldable pub packet_order : ℕ → Step → ℕ → ℕ → List ℕ → ℕ
packet_order sseq step coding noise samples =
    cond (ltb 15 sseq) 14
    (cond (out_of_turn step sseq) 13
    (cond (reserved coding) 6
    (cond (ltb 15 noise) 12
    (cond (samples_wrong samples (sample_bits coding)) 11 0))))

-- and then: level above 3; outgoing address outside range; output buffer shorter than the frame to be written
unfoldable pub send_order : ℕ → Step → ℕ → ℕ → List ℕ → ℕ → ℕ → ℕ → ℕ
send_order sseq step coding noise samples level addr room =
    packet_order sseq step coding noise samples or_else
    cond (ltb 3 level) 10
    (cond (address_bad addr) 15
    (cond (ltb room (frame_length coding (min (droppable_bits coding) level))) 16 0))
