-- Request A10, over the origin's own sequence rule (document 01, "Origin and node"): the packets that an origin sends, and which of them are scheduled.
use Rattle.std.specs.Prelude.{ℕ, ◌+◌, Bool, cond, List, [], ◌∷◌}
use Rattle.refusals.specs.Refusals.{if_taken}
use Rattle.origin.specs.Burst.{refusal13, sequence_sent, more_sent, sseq_set}
use Rattle.origin.specs.declared.Step.{Step}
use Rattle.counts.specs.Counted.{Packet}

-- the packet that a step in turn sends
abbrev pub packet_sent : Step → ℕ → Packet
packet_sent step sseq = record { sequence = sequence_sent step sseq; more = more_sent step }

-- how many packets are sent of a list of steps: those in turn
unfoldable pub packets_sent : ℕ → List Step → ℕ
packets_sent sseq [] = 0
packets_sent sseq (step ∷ steps) =
    if_taken (refusal13 step sseq) (1 + packets_sent (sseq_set step sseq) steps) (packets_sent sseq steps)

-- a step, and whether the endpoint schedules the packet that it sends
pub record Turn : Type 0 where
  pub step : Step
  pub scheduled : Bool

-- of an origin's steps in their order: the packets that are scheduled, once each,
unfoldable pub packets_scheduled : ℕ → List Turn → List Packet
packets_scheduled sseq [] = []
packets_scheduled sseq (turn ∷ turns) =
    if_taken (refusal13 turn.step sseq)
    (cond turn.scheduled
    (packet_sent turn.step sseq ∷ packets_scheduled (sseq_set turn.step sseq) turns)
    (packets_scheduled (sseq_set turn.step sseq) turns))
    (packets_scheduled sseq turns)

-- and how many are sent and are not
unfoldable pub packets_unscheduled : ℕ → List Turn → ℕ
packets_unscheduled sseq [] = 0
packets_unscheduled sseq (turn ∷ turns) =
    if_taken (refusal13 turn.step sseq)
    (cond turn.scheduled 0 1 + packets_unscheduled (sseq_set turn.step sseq) turns)
    (packets_unscheduled sseq turns)
