-- Document 01, "Refusal numbers" and "Order": how an order is written, and the numbers that judge numbers alone. 0 is no refusal.
use Rattle.std.specs.Prelude.{ℕ, zero, suc, Bool, true, false, ◌||◌, ltb, Result, Ok, Err}
use Rattle.refusals.specs.declared.Refusal.{Refusal}
use Rattle.refusals.specs.declared.Refusal.TheVariants.{FrameSize, Address, Control, CheckSequence, Protocol, CodingType, Dropping, FrameLength, Stamp, Level, Samples, Bits, OutOfTurn, Record, OutgoingAddress, Room, Late, Clock, Kind, TooFarAhead, NotOffered, PartOctet, Aborted, CommandOrPoll, QueueFull, QueueEmpty, Tray}

-- the number of a refusal
abbrev pub number : Refusal → ℕ
number FrameSize = 1
number Address = 2
number Control = 3
number CheckSequence = 4
number Protocol = 5
number CodingType = 6
number Dropping = 7
number FrameLength = 8
number Stamp = 9
number Level = 10
number Samples = 11
number Bits = 12
number OutOfTurn = 13
number Record = 14
number OutgoingAddress = 15
number Room = 16
number Late = 17
number Clock = 18
number Kind = 19
number TooFarAhead = 20
number NotOffered = 21
number PartOctet = 22
number Aborted = 23
number CommandOrPoll = 24
number QueueFull = 25
number QueueEmpty = 26
number Tray = 27

-- the number by which a call is refused; 0 where it is done
abbrev pub refusal_of : {A : Type 0} → Result A Refusal → ℕ
refusal_of (Ok a) = 0
refusal_of (Err r) = number r

infixr 20 ◌or_else◌
-- the first refusal or, where that is none, the second
abbrev pub ◌or_else◌ : ℕ → ℕ → ℕ
◌or_else◌ zero b = b
◌or_else◌ (suc a) b = suc a

-- the number n, where it applies
abbrev pub refuse : Bool → ℕ → ℕ
refuse true n = n
refuse false n = 0

-- done where nothing is refused, else what a refused call answers or leaves
abbrev pub if_taken : {A : Type 0} → ℕ → A → A → A
if_taken zero done refused = done
if_taken (suc r) done refused = refused

-- frame under 10 or over 490 octets
abbrev pub refusal1 : ℕ → ℕ
refusal1 length = refuse (ltb length 10 || ltb 490 length) 1

-- level above 3
abbrev pub refusal10 : ℕ → ℕ
refusal10 level = refuse (ltb 3 level) 10

-- noise or signalling bits above 15, N/A above 1 (0 where there is none)
abbrev pub refusal12 : ℕ → ℕ → ℕ
refusal12 bits na = refuse (ltb 15 bits || ltb 1 na) 12

-- addresses run from 128 to 8063
abbrev pub address_bad : ℕ → Bool
address_bad a = ltb a 128 || ltb 8063 a

-- outgoing address outside range
abbrev pub refusal15 : ℕ → ℕ
refusal15 a = refuse (address_bad a) 15

-- output buffer shorter than the frame to be written
abbrev pub refusal16 : ℕ → ℕ → ℕ
refusal16 room length = refuse (ltb room length) 16
