-- Request A10: after any list of calls the record's counts are those taken from the list.
use Prim.Native.Nat.{ℕ, zero, suc, ◌+◌, ◌≤◌}
use mathlib.Core.Path.{◌≡◌, refl, sym, ap, ◌∙◌}
use mathlib.Core.Bool.{Bool, true, false, cond}
use mathlib.Core.List.{List, [], ◌∷◌}
use native.Mathlib.Omega.{arith}
use lib.Dec.{eqb}
use Rattle.refusals.specs.Refusals.{if_taken}
use Rattle.frame.specs.Fields.{more_bit, sequence}
use Rattle.playout.specs.declared.Endpoint.{Endpoint}
use Rattle.playout.specs.Counts.{count_limit, stopped, missing_between}
use Rattle.playout.specs.Play.{fresh_record, rseq_after}
use Rattle.endpoint.specs.Calls.{Call, arrival_at, record_after}
use Rattle.counts.specs.Counted.{answering, Packet, scheduled_packets, missing_among}
use Rattle.endpoint.proofs.ArrivalLaws.{arrival_counts, arrival_rseq}

-- a count that grows by so much with each call, and stops, has grown by all of it together, and stopped
calls_count : (count : Endpoint → ℕ) (growth : Endpoint → Call → ℕ) (total : Endpoint → List Call → ℕ)
    → ((e : Endpoint) (c : Call) → count e ≤ count_limit → count (arrival_at e c).after ≡ stopped (count e + growth e c))
    → ((e : Endpoint) → total e [] ≡ 0)
    → ((e : Endpoint) (c : Call) (cs : List Call) → total e (c ∷ cs) ≡ growth e c + total (arrival_at e c).after cs)
    → (e : Endpoint) (cs : List Call) → count e ≤ count_limit → count (record_after e cs) ≡ stopped (count e + total e cs)
unfolding record_after
calls_count count growth total grows none some e [] h = omega (arith, none e)
calls_count count growth total grows none some e (c ∷ cs) h =
    let g = grows e c h in
    calls_count count growth total grows none some (arrival_at e c).after cs (omega (arith, g)) ∙ omega (arith, g, some e c cs)

-- the growth of each count with one call
by_zero : (n k x : ℕ) → k ≤ count_limit → if_taken n (stopped (k + x)) k ≡ stopped (k + if_taken n x 0)
by_zero zero k x h = refl
by_zero (suc n) k x h = omega arith

by_number : (t : Bool) (k : ℕ) → k ≤ count_limit → cond t (stopped (k + 1)) k ≡ stopped (k + cond t 1 0)
by_number true k h = refl
by_number false k h = omega arith

-- a call that is scheduled adds its packet to the list, and what is missing before it; any other leaves both
missing_more : (n r s more : ℕ) (ps : List Packet)
    → missing_among r (if_taken n (record { sequence = s; more = more } ∷ ps) ps) ≡ if_taken n (missing_between r s) 0 + missing_among (if_taken n (rseq_after s more) r) ps
unfolding missing_among
missing_more zero r s more ps = refl
missing_more (suc n) r s more ps = omega arith

-- a count of the calls that answer this number
answering_counts : (number : ℕ) (count : Endpoint → ℕ)
    → ((e : Endpoint) (c : Call) → count (arrival_at e c).after ≡ cond (eqb (arrival_at e c).answer.refusal number) (stopped (count e + 1)) (count e))
    → (e : Endpoint) (cs : List Call) → count e ≤ count_limit → count (record_after e cs) ≡ stopped (count e + answering number e cs)
unfolding answering
answering_counts number count grows =
    calls_count count (λ e c. cond (eqb (arrival_at e c).answer.refusal number) 1 0) (answering number)
    (λ e c h. grows e c ∙ by_number (eqb (arrival_at e c).answer.refusal number) (count e) h)
    (λ e. refl)
    (λ e c cs. refl)

-- the counts after any calls, on a record whose own are these
module _ (e : Endpoint) (cs : List Call) where
  pub scheduled_counts : e.scheduled ≤ count_limit → (record_after e cs).scheduled ≡ stopped (e.scheduled + answering 0 e cs)
  scheduled_counts = answering_counts 0 (λ e. e.scheduled) (λ e c. (arrival_counts e c.frame c.clock).0) e cs

  pub late_counts : e.late ≤ count_limit → (record_after e cs).late ≡ stopped (e.late + answering 17 e cs)
  late_counts = answering_counts 17 (λ e. e.late) (λ e c. (arrival_counts e c.frame c.clock).1) e cs

  pub missing_counts : e.missing ≤ count_limit → (record_after e cs).missing ≡ stopped (e.missing + missing_among e.rseq (scheduled_packets e cs))
  unfolding scheduled_packets missing_among
  missing_counts =
      calls_count (λ e. e.missing) (λ e c. if_taken (arrival_at e c).answer.refusal (missing_between e.rseq (sequence c.frame)) 0)
      (λ e cs. missing_among e.rseq (scheduled_packets e cs))
      (λ e c h. (arrival_counts e c.frame c.clock).2 ∙ by_zero (arrival_at e c).answer.refusal e.missing (missing_between e.rseq (sequence c.frame)) h)
      (λ e. refl)
      (λ e c cs. missing_more (arrival_at e c).answer.refusal e.rseq (sequence c.frame) (more_bit c.frame) (scheduled_packets (arrival_at e c).after cs)
      ∙ ap (λ (r : ℕ). if_taken (arrival_at e c).answer.refusal (missing_between e.rseq (sequence c.frame)) 0 + missing_among r (scheduled_packets (arrival_at e c).after cs)) (sym (arrival_rseq e c.frame c.clock)))
      e cs

-- from a fresh record: the calls that were scheduled, those refused with 17, and the packets missing among those scheduled, each stopped at 2^32-1
pub fresh_counts : (b : ℕ) (cs : List Call)
    → ((record_after (fresh_record b) cs).scheduled ≡ stopped (answering 0 (fresh_record b) cs))
    × ((record_after (fresh_record b) cs).late ≡ stopped (answering 17 (fresh_record b) cs))
    × ((record_after (fresh_record b) cs).missing ≡ stopped (missing_among 0 (scheduled_packets (fresh_record b) cs)))
fresh_counts b cs =
    let e : Endpoint = fresh_record b in
    (omega (arith, scheduled_counts e cs (omega arith)), omega (arith, late_counts e cs (omega arith)), omega (arith, missing_counts e cs (omega arith)))
