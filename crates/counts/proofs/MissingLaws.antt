-- Request A10: what is counted missing is the least that the numbers of two scheduled packets allow, by the origin's own rule.
use Prim.Native.Nat.{ℕ, zero, suc, ◌+◌, ◌-◌, ◌%◌, ◌≤◌, ◌<◌, min}
use mathlib.Core.Path.{◌≡◌, refl, sym, ap, ap₂, ◌∙◌}
use mathlib.Core.Bool.{Bool, true, false, not, cond}
use mathlib.Core.List.{List, [], ◌∷◌}
use native.Mathlib.Omega.{arith}
use lib.Dec.{eqb, leb}
use lib.ListN.{replicate}
use borrow.Author.Tests.{leb-true, leb-false, eqb-true, eqb-false, ne_eqb, lt-leb, not-false}
use Rattle.octets.specs.Octets.{tab}
use Rattle.octets.specs.Sequence.{next_number}
use Rattle.octets.proofs.TabLaws.{agree}
use Rattle.refusals.specs.Refusals.{refuse, if_taken}
use Rattle.refusals.proofs.RefusalLaws.{refuse_zero}
use Rattle.origin.specs.Burst.{refusal13, sequence_sent, more_sent, sseq_set, sseq_after}
use Rattle.origin.specs.declared.Step.{Step}
use Rattle.origin.specs.declared.Step.TheVariants.{Start, Data, Stop}
use Rattle.playout.specs.Counts.{stopped, missing_between}
use Rattle.playout.specs.Play.{fresh_record, rseq_after}
use Rattle.playout.proofs.CountLaws.{missing_first, missing_stop, missing_on}
use Rattle.endpoint.specs.Calls.{Call, record_after}
use Rattle.chain.specs.Chain.{Origin, refused_at, sent, Node, chain, AllReady}
use Rattle.chain.proofs.ChainLaws.{arrives}
use Rattle.counts.specs.Counted.{Packet, packet_of, scheduled_packets, missing_among}
use Rattle.counts.proofs.CountedLaws.{fresh_counts}
use Rattle.counts.specs.Sent.{packet_sent, packets_sent, Turn, packets_scheduled, packets_unscheduled}

-- ---- one packet more moves what the numbers allow by one at most

next_cases : (P : ℕ → Type 0) (x : ℕ) → (x < 15 → P (x + 1)) → (15 ≤ x → P 1) → P (next_number x)
next_cases P x f g = go (leb 15 x) refl where
  go : (v : Bool) → leb 15 x ≡ v → P (cond v 1 (x + 1))
  go true e = g (leb-true 15 x e)
  go false e = f (leb-false 15 x e)

lesser_next : (a b c d : ℕ) → c ≤ a + 1 → d ≤ b + 1 → min c d ≤ min a b + 1
lesser_next a b c d h k = omega arith

on_next : (r x : ℕ) → r ≤ 15 → (x + 1 + 15 - r) % 15 ≤ (x + 15 - r) % 15 + 1
on_next r x h = omega arith

on_over : (r : ℕ) → r ≤ 15 → (1 + 15 - r) % 15 ≤ (15 + 15 - r) % 15 + 1
on_over r h = omega arith

data_next : (r x : ℕ) → r ≤ 15 → (x ≡ 0 → ⊥) → x ≤ 15 → missing_between r (next_number x) ≤ missing_between r x + 1
data_next zero x hr hx hy = next_cases (λ (y : ℕ). missing_between 0 y ≤ missing_between 0 x + 1) x
    (λ l. omega (arith, missing_first x, missing_first (x + 1)))
    (λ l. omega (arith, missing_first x, missing_first 1))
data_next (suc r) x hr hx hy =
    let p : suc r ≡ 0 → ⊥ = λ z. omega arith in
    let e = missing_on (suc r) x p hx in
    next_cases (λ (y : ℕ). missing_between (suc r) y ≤ missing_between (suc r) x + 1) x
    (λ l. rw (e, missing_on (suc r) (x + 1) p (λ z. omega arith)) (lesser_next _ _ _ _ (on_next (suc r) x hr) (omega arith)))
    (λ l. let z : x ≡ 15 = omega arith in
    rw (e, missing_on (suc r) 1 p (λ z. omega arith), z) (lesser_next _ _ _ _ (on_over (suc r) hr) (omega arith)))

at_zero : (r : ℕ) → missing_between r 0 ≤ 1
at_zero zero = omega (arith, missing_first 0)
at_zero (suc r) = omega (arith, missing_stop (suc r) (λ z. omega arith))

at_one : (r : ℕ) → missing_between r 1 ≤ missing_between r 0 + 1
at_one zero = omega (arith, missing_first 1)
at_one (suc r) = let p : suc r ≡ 0 → ⊥ = λ z. omega arith in omega (arith, missing_stop (suc r) p, missing_on (suc r) 1 p (λ z. omega arith))

inside : (x n : ℕ) → refuse (eqb x 0) (suc n) ≡ 0 → x ≡ 0 → ⊥
inside x n h = eqb-false x 0 (refuse_zero (eqb x 0) n h)

outside : (x n : ℕ) → refuse (not (eqb x 0)) (suc n) ≡ 0 → x ≡ 0
outside x n h = eqb-true x 0 (not-false (eqb x 0) (refuse_zero (not (eqb x 0)) n h))

step_next : (r x : ℕ) (step : Step) → r ≤ 15 → x ≤ 15 → refusal13 step x ≡ 0 → missing_between r (sseq_set step x) ≤ missing_between r x + 1
step_next r x Start hr hx h = rw (outside x 12 h) (at_one r)
step_next r x Data hr hx h = data_next r x hr (inside x 12 h) hx
step_next r x Stop hr hx h = omega (arith, at_zero r)

set_low : (x : ℕ) (step : Step) → x ≤ 15 → sseq_set step x ≤ 15
set_low x Start h = omega arith
set_low x Data h = next_cases (λ (y : ℕ). y ≤ 15) x (λ l. omega arith) (λ l. omega arith)
set_low x Stop h = omega arith

missing_same : (r : ℕ) → r ≤ 15 → missing_between r r ≡ 0
missing_same zero h = missing_first 0
missing_same (suc r) h = missing_on (suc r) (suc r) (λ z. omega arith) (λ z. omega arith) ∙ omega arith

-- ---- a gap between two packets

-- SSEQ after any steps, against the packets that they send
after_steps : (r x n : ℕ) (steps : List Step) → r ≤ 15 → x ≤ 15 → missing_between r x ≤ n → missing_between r (sseq_after x steps) ≤ n + packets_sent x steps
unfolding sseq_after packets_sent
after_steps r x n [] hr hx h = omega (arith, h)
after_steps r x n (step ∷ steps) hr hx h =
    go (refusal13 step x) refl
    (λ e. after_steps r (sseq_set step x) (n + 1) steps hr (set_low x step hx) (omega (arith, step_next r x step hr hx e)))
    (after_steps r x n steps hr hx h)
  where
    go : (q : ℕ) → refusal13 step x ≡ q
        → (refusal13 step x ≡ 0 → missing_between r (sseq_after (sseq_set step x) steps) ≤ n + 1 + packets_sent (sseq_set step x) steps)
        → missing_between r (sseq_after x steps) ≤ n + packets_sent x steps
        → missing_between r (sseq_after (if_taken q (sseq_set step x) x) steps) ≤ n + if_taken q (1 + packets_sent (sseq_set step x) steps) (packets_sent x steps)
    go zero e taken left = omega (arith, taken e)
    go (suc q) e taken left = left

-- no steps that lead from r to s send fewer packets
pub at_least : (r : ℕ) (steps : List Step) → r ≤ 15 → missing_between r (sseq_after r steps) ≤ packets_sent r steps
at_least r steps h = omega (arith, after_steps r r 0 steps h h (omega (arith, missing_same r h)))

-- RSEQ as a packet leaves it is the origin's SSEQ after it, and a packet's sequence is the SSEQ before it
pub rseq_is : (step : Step) (sseq : ℕ) → rseq_after (sequence_sent step sseq) (more_sent step) ≡ sseq_set step sseq
rseq_is Start sseq = refl
rseq_is Data sseq = refl
rseq_is Stop sseq = refl

pub sequence_is : (step : Step) (sseq : ℕ) → refusal13 step sseq ≡ 0 → sequence_sent step sseq ≡ sseq
sequence_is Start sseq h = sym (outside sseq 12 h)
sequence_is Data sseq h = refl
sequence_is Stop sseq h = refl

-- between two packets of one origin that are scheduled, the first leaving RSEQ, never more are counted missing than it sent between them
pub never_more : (sseq : ℕ) (first : Step) (between : List Step) (second : Step) → sseq ≤ 15
    → refusal13 second (sseq_after (sseq_set first sseq) between) ≡ 0
    → missing_between (rseq_after (sequence_sent first sseq) (more_sent first)) (sequence_sent second (sseq_after (sseq_set first sseq) between))
    ≤ packets_sent (sseq_set first sseq) between
never_more sseq first between second h k =
    rw (rseq_is first sseq, sequence_is second (sseq_after (sseq_set first sseq) between) k)
    (at_least (sseq_set first sseq) between (set_low sseq first h))

-- ---- where it is all that was sent, and where it is less

going_on : (r n : ℕ) → (r ≡ 0 → ⊥) → r + n ≤ 15 → (sseq_after r (replicate n Data) ≡ r + n) × (packets_sent r (replicate n Data) ≡ n)
unfolding sseq_after packets_sent
going_on r zero h k = (omega arith, refl)
going_on r (suc n) h k =
    let e : eqb r 0 ≡ false = ne_eqb r 0 h in
    let l : leb 15 r ≡ false = lt-leb 15 r (omega arith) in
    let rest = going_on (r + 1) n (λ z. omega arith) (omega arith) in (
      ap₂ (λ (a b : Bool). sseq_after (if_taken (refuse a 13) (cond b 1 (r + 1)) r) (replicate n Data)) e l ∙ rest.0 ∙ omega arith,
      ap₂ (λ (a b : Bool). if_taken (refuse a 13) (1 + packets_sent (cond b 1 (r + 1)) (replicate n Data)) (packets_sent r (replicate n Data))) e l ∙ omega (arith, rest.1),
    )

-- n packets of a burst that goes on, whose numbers do not roll over: n are sent, and n are counted
pub exactly : (r n : ℕ) → (r ≡ 0 → ⊥) → r + n ≤ 15
    → (packets_sent r (replicate n Data) ≡ n) × (missing_between r (sseq_after r (replicate n Data)) ≡ n)
exactly r n h k =
    let p = going_on r n h k in
    (p.1, ap (missing_between r) p.0 ∙ missing_on r (r + n) h (λ z. omega arith) ∙ omega arith)

-- a gap over a roll-over can count as a lost stop and a new burst: eleven packets behind RSEQ 5 are counted as two
pub over_as_new : (packets_sent 5 (replicate 11 Data) ≡ 11) × (missing_between 5 (sseq_after 5 (replicate 11 Data)) ≡ 2)
unfolding missing_between sseq_after packets_sent
over_as_new = (refl, refl)

-- and one of fifteen as none
pub fifteen_as_none : (packets_sent 5 (replicate 15 Data) ≡ 15) × (missing_between 5 (sseq_after 5 (replicate 15 Data)) ≡ 0)
unfolding missing_between sseq_after packets_sent
fifteen_as_none = (refl, refl)

-- ---- every pair is reached by a gap of exactly that number

abbrev new_burst : ℕ → List Step
new_burst zero = []
new_burst (suc s) = Start ∷ replicate s Data

-- the shortest gap: of a burst's first packets, of the lost stop, of packets of the burst that went on, or of its end and a new one's first
abbrev pub gap : ℕ → ℕ → List Step
gap r s =
    cond (eqb r 0) (new_burst s)
    (cond (eqb s 0) (Stop ∷ []) (cond (leb ((s + 15 - r) % 15) (s + 1)) (replicate ((s + 15 - r) % 15) Data) (Stop ∷ new_burst s)))

-- two functions of r and s up to 15 that agree as tables
cells : (f g : ℕ → ℕ → ℕ) → tab (λ (r : ℕ). tab (f r) 16) 16 ≡ tab (λ (r : ℕ). tab (g r) 16) 16 → (r : ℕ) → r < 16 → (s : ℕ) → s < 16 → f r s ≡ g r s
cells f g e r hr s hs = agree (f r) (g r) 16 (agree (λ (r : ℕ). tab (f r) 16) (λ (r : ℕ). tab (g r) 16) 16 e r hr) s hs

-- it leads from r to s, where a step is in turn that sends s, and sends what is counted: by `at_least` the least that any does
pub least : (r : ℕ) → r < 16 → (s : ℕ) → s < 16
    → (sseq_after r (gap r s) ≡ s) × (packets_sent r (gap r s) ≡ missing_between r s)
    × (refusal13 (cond (eqb s 0) Start Data) s ≡ 0) × (sequence_sent (cond (eqb s 0) Start Data) s ≡ s)
unfolding sseq_after packets_sent missing_between tab
least r hr s hs = (
  cells (λ r s. sseq_after r (gap r s)) (λ r s. s) refl r hr s hs,
  cells (λ r s. packets_sent r (gap r s)) missing_between refl r hr s hs,
  cells (λ r s. refusal13 (cond (eqb s 0) Start Data) s) (λ r s. 0) refl r hr s hs,
  cells (λ r s. sequence_sent (cond (eqb s 0) Start Data) s) (λ r s. s) refl r hr s hs,
)

-- ---- over all that an origin sends

-- what a call of `origin::send` sends arrives, however many nodes send it on, as the packet of its step
pub packet_arrives : (o : Origin) → refused_at o ≡ 0 → (ns : List Node) → AllReady 0 ns (sent o) → packet_of (chain ns (sent o)) ≡ packet_sent o.step o.sseq
packet_arrives o z ns ready = let a = arrives o z ns ready in ap₂ (λ (s m : ℕ). record { sequence = s; more = m }) a.0 a.1

-- one step of them, where k packets were sent since RSEQ was set and none of them was scheduled: it is scheduled, it is not, or it is out of turn
module _ (r x k : ℕ) (turn : Turn) (turns : List Turn) (hr : r ≤ 15) (hx : x ≤ 15) (h : missing_between r x ≤ k) where
  abbrev y : ℕ
  y = sseq_set turn.step x

  among_turn : missing_among y (packets_scheduled y turns) ≤ 0 + packets_unscheduled y turns
      → (missing_between r y ≤ k + 1 → missing_among r (packets_scheduled y turns) ≤ k + 1 + packets_unscheduled y turns)
      → missing_among r (packets_scheduled x turns) ≤ k + packets_unscheduled x turns
      → missing_among r (packets_scheduled x (turn ∷ turns)) ≤ k + packets_unscheduled x (turn ∷ turns)
  unfolding missing_among packets_scheduled packets_unscheduled
  among_turn scheduled lost refused = go (refusal13 turn.step x) turn.scheduled refl where
    go : (q : ℕ) (t : Bool) → refusal13 turn.step x ≡ q
        → missing_among r (if_taken q (cond t (packet_sent turn.step x ∷ packets_scheduled y turns) (packets_scheduled y turns)) (packets_scheduled x turns))
        ≤ k + if_taken q (cond t 0 1 + packets_unscheduled y turns) (packets_unscheduled x turns)
    go zero true e =
        let here : missing_between r (sequence_sent turn.step x) ≤ k = rw (sequence_is turn.step x e) h in
        rw (rseq_is turn.step x) (omega (arith, here, scheduled))
    go zero false e = omega (arith, lost (omega (arith, step_next r x turn.step hr hx e)))
    go (suc q) t e = refused

among : (r x k : ℕ) (turns : List Turn) → r ≤ 15 → x ≤ 15 → missing_between r x ≤ k → missing_among r (packets_scheduled x turns) ≤ k + packets_unscheduled x turns
unfolding missing_among packets_scheduled packets_unscheduled
among r x k [] hr hx h = omega arith
among r x k (turn ∷ turns) hr hx h =
    let next : ℕ = sseq_set turn.step x in
    let low = set_low x turn.step hx in
    among_turn r x k turn turns hr hx h
    (among next next 0 turns low low (omega (arith, missing_same next low)))
    (among r next (k + 1) turns hr low)
    (among r x k turns hr hx h)

-- any calls on a fresh record that schedule packets of one origin, each once and in their order, from the beginning of a burst on: never more are counted missing than it sent and were not scheduled
pub none_made_up : (b : ℕ) (cs : List Call) (turns : List Turn) → scheduled_packets (fresh_record b) cs ≡ packets_scheduled 0 turns
    → (record_after (fresh_record b) cs).missing ≤ packets_unscheduled 0 turns
none_made_up b cs turns e =
    let n = among 0 0 0 turns (omega arith) (omega arith) (omega (arith, missing_first 0)) in
    let c : (record_after (fresh_record b) cs).missing ≡ stopped (missing_among 0 (packets_scheduled 0 turns)) = (fresh_counts b cs).2 ∙ ap (λ (ps : List Packet). stopped (missing_among 0 ps)) e in
    omega (arith, n, c)
