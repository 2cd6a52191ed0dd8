-- What an operator lives by, over any list of arrival calls on one record, and on one that began fresh.
use Prim.Native.Nat.{ℕ, zero, suc, ◌+◌, ◌≤◌}
use mathlib.Core.Path.{◌≡◌, refl, ap, subst, ◌∙◌}
use mathlib.Core.Bool.{Bool, true, false, cond}
use mathlib.Core.List.{List, [], ◌∷◌}
use native.Mathlib.Omega.{arith}
use Rattle.refusals.specs.Refusals.{◌or_else◌, if_taken}
use Rattle.frame.specs.Orders.{voice_refusal}
use Rattle.frame.specs.Fields.{stamp, sequence, more_bit, noise}
use Rattle.playout.specs.declared.Endpoint.{Endpoint}
use Rattle.playout.specs.Play.{fresh_record, refusal14, refusal17, refusal18, refusal20}
use Rattle.endpoint.specs.Arrival.{arrival_of}
use Rattle.endpoint.specs.Calls.{Call, arrival_at, record_after, due_times, Apart, is_received, received, last_of}
use Rattle.playout.proofs.PlayLaws.{fresh_ranged, play_ranged}
use Rattle.endpoint.proofs.ArrivalLaws.{arrival_number, arrival_ranged, arrival_apart, arrival_left, arrival_last}

-- the record that calls leave is one that the next call accepts
pub calls_ranged : (e : Endpoint) (cs : List Call) → refusal14 e ≡ 0 → refusal14 (record_after e cs) ≡ 0
unfolding record_after
calls_ranged e [] h = h
calls_ranged e (c ∷ cs) h = calls_ranged (arrival_at e c).after cs (arrival_ranged e c.frame c.clock h)

pub fresh_calls_ranged : (b : ℕ) (cs : List Call) → b ≤ 199 → refusal14 (record_after (fresh_record b) cs) ≡ 0
fresh_calls_ranged b cs h = calls_ranged (fresh_record b) cs (fresh_ranged b h)

-- one more call: its frame is due at the end before it at the earliest and takes 16 ms, or it is refused and the end stays
next_apart : (from end n due : ℕ) (dues : List ℕ) → (n ≡ 0 → (from ≤ due) × (end ≡ due + 16)) → ((n ≡ 0 → ⊥) → end ≡ from)
    → Apart end dues → Apart from (if_taken n (due ∷ dues) dues)
unfolding Apart
next_apart from end zero due dues taken refused rest = ((taken refl).0, subst (λ (t : ℕ). Apart t dues) (taken refl).1 rest)
next_apart from end (suc n) due dues taken refused rest = subst (λ (t : ℕ). Apart t dues) (refused (λ z. omega arith)) rest

-- no scheduled frame overlaps the one before it, on any record
pub calls_apart : (e : Endpoint) (cs : List Call) → Apart e.end (due_times e cs)
unfolding due_times Apart
calls_apart e [] = tt
calls_apart e (c ∷ cs) =
    next_apart e.end (arrival_at e c).after.end (arrival_at e c).answer.refusal (arrival_at e c).answer.due (due_times (arrival_at e c).after cs)
    (arrival_apart e c.frame c.clock)
    (λ h. ap (λ (x : Endpoint). x.end) (arrival_left e c.frame c.clock h))
    (calls_apart (arrival_at e c).after cs)

pub fresh_calls_apart : (b : ℕ) (cs : List Call) → Apart 0 (due_times (fresh_record b) cs)
fresh_calls_apart b cs = calls_apart (fresh_record b) cs

-- so 14 never comes from our own record: of the arrival's order the numbers after it are left
pub fresh_never_14 : (b : ℕ) (cs : List Call) (f : List ℕ) (clock : ℕ) → b ≤ 199 → (e : Endpoint) → e ≡ record_after (fresh_record b) cs
    → (arrival_of e f clock).answer.refusal
    ≡ refusal18 e clock or_else voice_refusal f or_else refusal17 e clock (stamp f) (sequence f) or_else refusal20 e clock (stamp f) (sequence f)
fresh_never_14 b cs f clock h e is =
    arrival_number e f clock
    ∙ play_ranged e clock (voice_refusal f) (stamp f) (sequence f) (ap refusal14 is ∙ fresh_calls_ranged b cs h)

set_last : (t : Bool) (field : List ℕ → ℕ) (f : List ℕ) (before : ℕ) (fs : List (List ℕ))
    → last_of field (cond t (field f) before) fs ≡ last_of field before (cond t (f ∷ fs) fs)
unfolding last_of
set_last true field f before fs = refl
set_last false field f before fs = refl

-- a field of the record that each packet received sets from a field of its own, and that no other call changes
calls_last : (kept : Endpoint → ℕ) (field : List ℕ → ℕ)
    → ((e : Endpoint) (c : Call) → kept (arrival_at e c).after ≡ cond (is_received (arrival_at e c).answer.refusal) (field c.frame) (kept e))
    → (e : Endpoint) (cs : List Call) → kept (record_after e cs) ≡ last_of field (kept e) (received e cs)
unfolding record_after received last_of
calls_last kept field sets e [] = refl
calls_last kept field sets e (c ∷ cs) =
    let rest = received (arrival_at e c).after cs in
    calls_last kept field sets (arrival_at e c).after cs
    ∙ ap (λ (k : ℕ). last_of field k rest) (sets e c)
    ∙ set_last (is_received (arrival_at e c).answer.refusal) field c.frame (kept e) rest

-- M_LAST and the last noise are those of the last packet received, scheduled or not; where there was none, as they came
pub last_received : (e : Endpoint) (cs : List Call)
    → ((record_after e cs).mlast ≡ last_of more_bit e.mlast (received e cs))
    × ((record_after e cs).lastnoise ≡ last_of noise e.lastnoise (received e cs))
last_received e cs =
    (calls_last (λ x. x.mlast) more_bit (λ x c. (arrival_last x c.frame c.clock).0) e cs, calls_last (λ x. x.lastnoise) noise (λ x c. (arrival_last x c.frame c.clock).1) e cs)
