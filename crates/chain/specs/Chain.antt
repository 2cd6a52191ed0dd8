-- Demand 3, its last part as request A9 has it: any chain of nodes is one node. Stated over what the calls answer and leave in their buffers.
use Rattle.std.specs.Prelude.{ℕ, ◌+◌, ◌-◌, ◌≤◌, min, ◌≡◌, false, List, [], ◌∷◌, map, length, take}
use Rattle.refusals.specs.Refusals.{address_bad}
use Rattle.coding.specs.Coding.{sample_bits, droppable_bits}
use Rattle.blocks.specs.Blocks.{divided}
use Rattle.onward.specs.Onward.{wait_of, onward}
use Rattle.node.specs.Node.{forward_answer, forward_buffer}
use Rattle.origin.specs.Send.{send_answer, send_buffer}
use Rattle.origin.specs.declared.Step.{Step}
use Rattle.endpoint.specs.Read.{Heard}

-- one call of `origin::send`: what it is given
pub record Origin : Type 0 where
  pub sseq : ℕ
  pub step : Step
  pub coding : ℕ
  pub noise : ℕ
  pub samples : List ℕ
  pub level : ℕ
  pub from : ℕ
  pub to : ℕ
  pub address : ℕ
  pub out : List ℕ

-- its refusal
unfoldable pub refused_at : Origin → ℕ
refused_at o =
    (send_answer o.sseq o.step o.coding o.noise o.samples o.level (wait_of o.from o.to) o.address o.out).refusal

-- the frame that it makes: as many octets of its buffer as it answers
unfoldable pub sent : Origin → List ℕ
sent o =
    take (send_answer o.sseq o.step o.coding o.noise o.samples o.level (wait_of o.from o.to) o.address o.out).length
    (send_buffer o.sseq o.step o.coding o.noise o.samples o.level (wait_of o.from o.to) o.address o.out)

-- one call of `node::forward`, less the frame
pub record Node : Type 0 where
  pub level : ℕ
  pub from : ℕ
  pub to : ℕ
  pub address : ℕ
  pub out : List ℕ

unfoldable pub refused_by : Node → List ℕ → ℕ
refused_by n f = (forward_answer n.level (wait_of n.from n.to) n.address f n.out).refusal

-- what a node hands on: its whole output
unfoldable pub handed : Node → List ℕ → List ℕ
handed n f =
    take (forward_answer n.level (wait_of n.from n.to) n.address f n.out).length
    (forward_buffer n.level (wait_of n.from n.to) n.address f n.out)

-- what leaves the last of a chain: with no node, the first frame itself
unfoldable pub chain : List Node → List ℕ → List ℕ
chain [] f = f
chain (n ∷ ns) f = chain ns (handed n f)

-- no node of the chain refuses what it is handed
unfoldable pub AllTake : List Node → List ℕ → Type 0
AllTake [] f = Unit {0}
AllTake (n ∷ ns) f = (refused_by n f ≡ 0) × AllTake ns (handed n f)

-- an address in range, a level of 0 to 3, and room for what is left of the first frame once all levels so far are dropped
pub record Ready (so_far : ℕ) (n : Node) (f : List ℕ) : Type 0 where
  pub low : n.level ≤ 3
  pub inside : address_bad n.address ≡ false
  pub room : length (onward (so_far + n.level) 0 n.address f) ≤ length n.out

unfoldable pub AllReady : ℕ → List Node → List ℕ → Type 0
AllReady so_far [] f = Unit {0}
AllReady so_far (n ∷ ns) f = Ready so_far n f × AllReady (so_far + n.level) ns f

-- the levels, and the waits, added
unfoldable pub levels : List Node → ℕ
levels [] = 0
levels (n ∷ ns) = n.level + levels ns

unfoldable pub waits : List Node → ℕ
waits [] = 0
waits (n ∷ ns) = wait_of n.from n.to + waits ns

-- the last address: the origin's where there is no node
unfoldable pub last_address : ℕ → List Node → ℕ
last_address a [] = a
last_address a (n ∷ ns) = last_address n.address ns

-- the single node: the waits added and stopped at 200, the levels added and stopped at 3, the last address
unfoldable pub single : Origin → List Node → List ℕ → Node
single o ns out = record {
  level = min 3 (levels ns);
  from = 0;
  to = min 200 (waits ns);
  address = last_address o.address ns;
  out = out;
}

-- how many bits are lost: the lesser of the coding's droppable bits and the sum of all levels, the origin's included
abbrev pub lost : Origin → List Node → ℕ
lost o ns = min (droppable_bits o.coding) (o.level + levels ns)

-- what the reader answers at the end: the originals divided by 2 to the power of the bits lost, whole division, and the width that is left
abbrev pub what_is_heard : Origin → List Node → Heard
what_is_heard o ns = record {
  refusal = 0;
  s = sample_bits o.coding;
  dropped = lost o ns;
  width = sample_bits o.coding - lost o ns;
  samples = map (divided (lost o ns)) o.samples;
}
