-- Document 01, "Examples (P: proved)": the examples marked P as one table. A row speaks of what the public calls promise, and holds for whatever it leaves open.
use Rattle.std.specs.Prelude.{ℕ, ◌+◌, ◌-◌, ◌*◌, ◌≤◌, ◌≡◌, true, false, List, [], ◌∷◌, ◌++◌, length, take, replicate}
use Rattle.octets.specs.Octets.{octet}
use Rattle.refusals.specs.Refusals.{address_bad}
use Rattle.coding.specs.Coding.{sample_bits, reserved, frame_length}
use Rattle.blocks.specs.Blocks.{samples_fit}
use Rattle.frame.specs.Fields.{is_voice, stamp, more_bit, sequence}
use Rattle.frame.specs.Calls.{taken_answer}
use Rattle.onward.specs.Onward.{wait_of}
use Rattle.onward.specs.Sent.{Sent}
use Rattle.node.specs.Node.{forward_answer, forward_buffer}
use Rattle.origin.specs.declared.Step.{Step}
use Rattle.origin.specs.declared.Step.TheVariants.{Start}
use Rattle.origin.specs.Burst.{refusal13}
use Rattle.origin.specs.Send.{send_answer, send_buffer}
use Rattle.origin.specs.Signal.{signal_answer, signal_buffer}
use Rattle.playout.specs.declared.Endpoint.{Endpoint}
use Rattle.playout.specs.Play.{fresh_record, clock_limit, refusal14, refusal18}
use Rattle.endpoint.specs.Read.{read_answer}
use Rattle.endpoint.specs.Arrival.{arrival_of}
use Rattle.endpoint.specs.Signal.{signal_answer as signalHeard}

-- ---- the rows

-- a call of START outside a burst
pub record StartCall : Type 0 where
  pub coding : ℕ
  pub noise : ℕ
  pub address : ℕ
  pub level : ℕ
  pub wait : ℕ

-- a voice frame that arrives, and when it is due
pub record Arrives : Type 0 where
  pub clock : ℕ
  pub sequence : ℕ
  pub stamp : ℕ
  pub more : ℕ
  pub due : ℕ

pub data Row : Type 0 where
  -- START's octets 1 to 8 and length
  starts : (call : StartCall) (octets : List ℕ) (size : ℕ) → Row
  -- then a node at a level: octet 5 and length
  then_level : (call : StartCall) (level octet5 size : ℕ) → Row
  -- these samples, then zeros: octets 9 and 25
  packs : (coding : ℕ) (samples : List ℕ) (octet9 octet25 : ℕ) → Row
  -- octets 1 and 2 of an address, and an address that is refused
  addresses : (address octet1 octet2 : ℕ) → Row
  no_address : (address : ℕ) → Row
  -- two clock readings and the wait, which is the stamp of a frame just made
  waits : (from to wait : ℕ) → Row
  -- a node's old stamp, wait and new stamp
  stamps : (old wait new : ℕ) → Row
  -- frames that arrive on a fresh record of this B, and one that is next, with a stamp up to the most: its refusal and due time
  schedules : (b : ℕ) (frames : List Arrives) → Row
  next : (b : ℕ) (frames : List Arrives) (sequence most clock refusal due : ℕ) → Row
  -- a stamp that plays at this B, one that is late at it, and one that is late at every B
  plays : (b stamp : ℕ) → Row
  late : (b stamp : ℕ) → Row
  late_ever : (stamp : ℕ) → Row
  -- the signalling writer's octets 1 to 8
  signals : (a b c d na wait address : ℕ) (octets : List ℕ) → Row

abbrev pub first : StartCall
first = record { coding = 21; noise = 3; address = 128; level = 0; wait = 7 }

abbrev pub three : List Arrives
three =
    record { clock = 1000; sequence = 0; stamp = 30; more = 1; due = 1070 }
    ∷ record { clock = 1010; sequence = 1; stamp = 24; more = 1; due = 1086 }
    ∷ record { clock = 1050; sequence = 3; stamp = 20; more = 1; due = 1130 }
    ∷ []

abbrev pub table : List Row
table =
    starts first (4 ∷ 1 ∷ 239 ∷ 68 ∷ 51 ∷ 7 ∷ 149 ∷ 3 ∷ []) 90
    ∷ then_level first 1 50 74
    ∷ then_level first 3 48 42
    ∷ packs 2 (2 ∷ 1 ∷ 3 ∷ []) 5 6
    ∷ addresses 8063 248 255
    ∷ no_address 8064
    ∷ no_address 127
    ∷ waits 4294967290 4 10
    ∷ stamps 199 1 200
    ∷ stamps 200 1 200
    ∷ schedules 100 three
    ∷ next 100 three 4 100 1146 0 1146
    ∷ next 100 three 4 100 1147 17 0
    ∷ plays 100 100
    ∷ late 100 101
    ∷ late_ever 200
    ∷ signals 1 0 1 0 0 0 129 (4 ∷ 3 ∷ 3 ∷ 68 ∷ 0 ∷ 0 ∷ 0 ∷ 10 ∷ [])
    ∷ []

-- ---- what a row says: that the calls take it, and what they then answer and leave

abbrev pub sent : ℕ → ℕ → Sent
sent refusal length = record { refusal = refusal; length = length }

abbrev pub start_answer : StartCall → List ℕ → List ℕ → Sent
start_answer s samples out = send_answer 0 Start s.coding s.noise samples s.level s.wait s.address out

abbrev pub start_buffer : StartCall → List ℕ → List ℕ → List ℕ
start_buffer s samples out = send_buffer 0 Start s.coding s.noise samples s.level s.wait s.address out

-- the frame that START made: as many octets of its buffer as it answers
abbrev pub start_frame : StartCall → List ℕ → List ℕ → List ℕ
start_frame s samples out = take (start_answer s samples out).length (start_buffer s samples out)

-- these samples, then zeros
abbrev pub then_zeros : List ℕ → List ℕ
then_zeros samples = samples ++ replicate (128 - length samples) 0

-- what the origin does not refuse of all but its coding type, samples, address and buffer
pub record LegalSend (sseq : ℕ) (step : Step) (noise level : ℕ) : Type 0 where
  pub ranged : sseq ≤ 15
  pub in_turn_lem : refusal13 step sseq ≡ 0
  pub quiet : noise ≤ 15
  pub low : level ≤ 3

-- a coding type that is not reserved, and 128 samples that fit it
pub record LegalVoice (coding : ℕ) (samples : List ℕ) : Type 0 where
  pub known : reserved coding ≡ false
  pub fit : samples_fit samples (sample_bits coding) ≡ true

pub record LegalSignal (bits na : ℕ) : Type 0 where
  pub four : bits ≤ 15
  pub one : na ≤ 1

-- the frames arrive one after another on one record, each is due when it says, and P holds of the record after them
unfoldable pub Arriving : Endpoint → List Arrives → (Endpoint → Type 0) → Type 0
Arriving e [] P = P e
Arriving e (a ∷ rest) P =
    (f : List ℕ) → (read_answer f).refusal ≡ 0 → sequence f ≡ a.sequence → stamp f ≡ a.stamp → more_bit f ≡ a.more
    → ((arrival_of e f a.clock).answer.refusal ≡ 0) × ((arrival_of e f a.clock).answer.due ≡ a.due) × Arriving (arrival_of e f a.clock).after rest P

-- a frame of this stamp is late on a record, and for the signalling reader at the same B
unfoldable pub LateOn : Endpoint → ℕ → Type 0
LateOn e s =
    ((f : List ℕ) (clock : ℕ) → refusal18 e clock ≡ 0 → (read_answer f).refusal ≡ 0 → stamp f ≡ s → (arrival_of e f clock).answer.refusal ≡ 17)
    × ((f : List ℕ) → (taken_answer f).refusal ≡ 0 → is_voice f ≡ false → stamp f ≡ s → (signalHeard e.buildout f).refusal ≡ 17)

unfoldable pub holds : Row → Type 0
holds (starts s octets size) =
    (samples out : List ℕ) → samples_fit samples (sample_bits s.coding) ≡ true → size ≤ length out
    → (start_answer s samples out ≡ sent 0 size) × (take 8 (start_buffer s samples out) ≡ octets)
holds (then_level s level octet5 size) =
    (samples out : List ℕ) → (start_answer s samples out).refusal ≡ 0
    → (wait addr : ℕ) (out' : List ℕ) → address_bad addr ≡ false → size ≤ length out'
    → (forward_answer level wait addr (start_frame s samples out) out' ≡ sent 0 size)
    × (octet 5 (forward_buffer level wait addr (start_frame s samples out) out') ≡ octet5)
holds (packs coding samples octet9 octet25) =
    (sseq : ℕ) (step : Step) (noise level wait addr : ℕ) (out : List ℕ)
    → LegalSend sseq step noise level → address_bad addr ≡ false → frame_length coding 0 ≤ length out
    → ((send_answer sseq step coding noise (then_zeros samples) level wait addr out).refusal ≡ 0)
    × (octet 9 (send_buffer sseq step coding noise (then_zeros samples) level wait addr out) ≡ octet9)
    × (octet 25 (send_buffer sseq step coding noise (then_zeros samples) level wait addr out) ≡ octet25)
holds (addresses addr octet1 octet2) =
    ((sseq : ℕ) (step : Step) (coding noise : ℕ) (samples : List ℕ) (level wait : ℕ) (out : List ℕ)
    → LegalSend sseq step noise level → LegalVoice coding samples → frame_length coding 0 ≤ length out
    → ((send_answer sseq step coding noise samples level wait addr out).refusal ≡ 0)
    × (take 2 (send_buffer sseq step coding noise samples level wait addr out) ≡ octet1 ∷ octet2 ∷ []))
    × ((bits na wait : ℕ) (out : List ℕ) → LegalSignal bits na → 10 ≤ length out
    → ((signal_answer bits na wait addr out).refusal ≡ 0) × (take 2 (signal_buffer bits na wait addr out) ≡ octet1 ∷ octet2 ∷ []))
    × ((level wait : ℕ) (f out : List ℕ) → level ≤ 3 → (taken_answer f).refusal ≡ 0 → length f ≤ length out
    → ((forward_answer level wait addr f out).refusal ≡ 0) × (take 2 (forward_buffer level wait addr f out) ≡ octet1 ∷ octet2 ∷ []))
holds (no_address addr) =
    ((sseq : ℕ) (step : Step) (coding noise : ℕ) (samples : List ℕ) (level wait : ℕ) (out : List ℕ)
    → LegalSend sseq step noise level → LegalVoice coding samples → send_answer sseq step coding noise samples level wait addr out ≡ sent 15 0)
    × ((bits na wait : ℕ) (out : List ℕ) → LegalSignal bits na → signal_answer bits na wait addr out ≡ sent 15 0)
    × ((level wait : ℕ) (f out : List ℕ) → level ≤ 3 → forward_answer level wait addr f out ≡ sent 15 0)
holds (waits from to wait) =
    (bits na addr : ℕ) (out : List ℕ) → LegalSignal bits na → address_bad addr ≡ false → 10 ≤ length out
    → ((signal_answer bits na (wait_of from to) addr out).refusal ≡ 0) × (octet 6 (signal_buffer bits na (wait_of from to) addr out) ≡ wait)
holds (stamps old wait new) =
    (level addr : ℕ) (f out : List ℕ) → level ≤ 3 → address_bad addr ≡ false → (taken_answer f).refusal ≡ 0 → stamp f ≡ old → length f ≤ length out
    → ((forward_answer level wait addr f out).refusal ≡ 0) × (octet 6 (forward_buffer level wait addr f out) ≡ new)
holds (schedules b frames) = Arriving (fresh_record b) frames (λ e. Unit {0})
holds (next b frames seq most clock refusal due) =
    Arriving (fresh_record b) frames
    (λ e. (f : List ℕ) → (read_answer f).refusal ≡ 0 → sequence f ≡ seq → stamp f ≤ most
    → ((arrival_of e f clock).answer.refusal ≡ refusal) × ((arrival_of e f clock).answer.due ≡ due))
holds (plays b s) =
    (f : List ℕ) (clock : ℕ) → clock ≤ clock_limit → (read_answer f).refusal ≡ 0 → stamp f ≡ s → (arrival_of (fresh_record b) f clock).answer.refusal ≡ 0
holds (late b s) = (e : Endpoint) → refusal14 e ≡ 0 → e.buildout ≡ b → LateOn e s
holds (late_ever s) = (e : Endpoint) → refusal14 e ≡ 0 → LateOn e s
holds (signals a b c d na wait addr octets) =
    (out : List ℕ) → 10 ≤ length out
    → (signal_answer (8 * a + 4 * b + 2 * c + d) na wait addr out ≡ sent 0 10) × (take 8 (signal_buffer (8 * a + 4 * b + 2 * c + d) na wait addr out) ≡ octets)

infixr 10 ◌also◌
-- every row of a table holds
pub data AllHold : List Row → Type 0 where
  none : AllHold []
  ◌also◌ : {r : Row} {rs : List Row} → holds r → AllHold rs → AllHold (r ∷ rs)
