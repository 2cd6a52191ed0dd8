-- Request A10 over any list of arrival calls on one record: the counts, taken from the list.
use Rattle.std.specs.Prelude.{ℕ, ◌+◌, cond, List, [], ◌∷◌, eqb}
use Rattle.refusals.specs.Refusals.{if_taken}
use Rattle.frame.specs.Fields.{more_bit, sequence}
use Rattle.playout.specs.declared.Endpoint.{Endpoint}
use Rattle.playout.specs.Counts.{missing_between}
use Rattle.playout.specs.Play.{rseq_after}
use Rattle.endpoint.specs.Calls.{Call, arrival_at}

-- how many of the calls answer this number
unfoldable pub answering : ℕ → Endpoint → List Call → ℕ
answering n e [] = 0
answering n e (c ∷ cs) = cond (eqb (arrival_at e c).answer.refusal n) 1 0 + answering n (arrival_at e c).after cs

-- what RSEQ goes by
pub record Packet : Type 0 where
  pub sequence : ℕ
  pub more : ℕ

abbrev pub packet_of : List ℕ → Packet
packet_of f = record { sequence = sequence f; more = more_bit f }

-- the packets that were scheduled, in the order of the calls
unfoldable pub scheduled_packets : Endpoint → List Call → List Packet
scheduled_packets e [] = []
scheduled_packets e (c ∷ cs) =
    if_taken (arrival_at e c).answer.refusal
    (packet_of c.frame ∷ scheduled_packets (arrival_at e c).after cs)
    (scheduled_packets (arrival_at e c).after cs)

-- the packets missing before the first of these, where RSEQ is r, and before each other, where it is what the one before leaves
unfoldable pub missing_among : ℕ → List Packet → ℕ
missing_among r [] = 0
missing_among r (p ∷ ps) = missing_between r p.sequence + missing_among (rseq_after p.sequence p.more) ps
