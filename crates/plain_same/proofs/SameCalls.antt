-- Request A11: on every input the plain call's answer, its buffer and SSEQ are the quick call's, refused or not. One statement for each call.
use Prim.Native.Nat.{ℕ}
use mathlib.Core.Path.{◌≡◌, sym, ap, ap₂, ◌∙◌}
use mathlib.Core.List.{List, ◌++◌}
use contract.Lifetimes.{Lfts}
use borrow.Fn.Kinds.{Dens, ended_of}
use denote.Triple.Clauses.{AtExit}
use lib.ListN.{length, drop, replicate}
use Rattle.refusals.specs.Refusals.{if_taken}
use Rattle.refusals.proofs.RefusalLaws.{if_same}
use Rattle.coding.specs.Coding.{sample_bits}
use Rattle.frame.specs.Fields.{coding}
use Rattle.onward.specs.Onward.{wait_of, onward}
use Rattle.onward.proofs.SentLaws.{sent_one}
use Rattle.onward.specs.Sent.{Sent, sent_answer, sent_buffer}
use Rattle.node.specs.Node.{forward_answer, forward_buffer}
use Rattle.origin.specs.Burst.{sseq_set}
use Rattle.origin.specs.Send.{send_answer, send_buffer, send_sseq}
use Rattle.origin.specs.declared.Step.{Step}
use Rattle.endpoint.specs.Read.{Heard, samples_of, heard_of, read_answer}
use Rattle.plain_order.specs.Order.{read_order}
use Rattle.plain_passes.specs.Passes.{wait_between, passed}
use Rattle.plain.specs.Forward.{forward_order, plain_forward_answer, plain_forward_buffer}
use Rattle.plain.specs.Read.{blocks_missing, blocks_present, plain_read}
use Rattle.plain.specs.Send.{plain_send_answer, plain_send_buffer, plain_send_sseq}
use Rattle.plain.proofs.PlainLaws.{forward_taken}
use Rattle.plain.proofs.OneOutcome.{heard_one}
use Rattle.plain_same.proofs.BlockLaws.{read_words_lem}
use Rattle.plain_same.proofs.SameOrders.{forward_order_lem, read_order_lem, send_order_lem}
use Rattle.plain_same.proofs.StepLaws.{passes_are, sent_is}
use Rattle.plain.proofs.forward.Kinds as forward-kinds
use Rattle.plain.proofs.read.Kinds as read-kinds
use Rattle.plain.proofs.send.Kinds as send-kinds
use Rattle.plain.proofs.forward.Reads as plain-forward
use Rattle.plain.proofs.read.Reads as plain-read
use Rattle.plain.proofs.send.Reads as plain_send
use Rattle.node.proofs.forward.Reads as quick-forward
use Rattle.endpoint.proofs.read.Reads as quick-read
use Rattle.origin.proofs.send.Reads as quick-send

-- the node: `plain::forward` and `node::forward`
pub forward_same : (level from to addr : ℕ) (f out : List ℕ)
    → (plain_forward_answer level (wait_between from to) addr f out ≡ forward_answer level (wait_of from to) addr f out)
    × (plain_forward_buffer level (wait_between from to) addr f out ≡ forward_buffer level (wait_of from to) addr f out)
unfolding plain_forward_answer plain_forward_buffer forward_answer forward_buffer sent_answer sent_buffer
forward_same level from to addr f out =
    let wait = wait_of from to in
    let r = forward_order level addr f (length out) in
    let step : r ≡ 0 → passed level wait addr f ≡ onward level wait addr f = λ e. passes_are level wait addr f (forward_taken level addr f (length out) e).long in (
      if_same {A = Sent} r _ _ _ (λ e. ap (λ (x : List ℕ). record { refusal = 0; length = length x }) (step e))
          ∙ ap (λ (n : ℕ). sent_answer n (onward level wait addr f)) (forward_order_lem level wait addr f (length out)),
      if_same r _ _ _ (λ e. ap (λ (x : List ℕ). x ++ drop (length x) out) (step e))
          ∙ ap (λ (n : ℕ). sent_buffer n (onward level wait addr f) out) (forward_order_lem level wait addr f (length out)),
    )

-- the voice reader: `plain::read` and `endpoint::read`
pub read_same : (f : List ℕ) → plain_read f ≡ read_answer f
unfolding plain_read read_answer heard_of samples_of
read_same f =
    ap (λ (xs : List ℕ). if_taken {A = Heard} (read_order f)
    (record { refusal = 0; s = sample_bits (coding f); dropped = blocks_missing f; width = blocks_present f; samples = xs })
    (record { refusal = read_order f; s = 0; dropped = 0; width = 0; samples = replicate 128 0 }))
    (read_words_lem (drop 8 f) (blocks_present f))
    ∙ ap (λ (n : ℕ). heard_of n f) (read_order_lem f)

-- the origin: `plain::send` and `origin::send`
pub send_same : (sseq : ℕ) (step : Step) (t n : ℕ) (xs : List ℕ) (level from to addr : ℕ) (out : List ℕ)
    → (plain_send_answer sseq step t n xs level (wait_between from to) addr out ≡ send_answer sseq step t n xs level (wait_of from to) addr out)
    × (plain_send_buffer sseq step t n xs level (wait_between from to) addr out ≡ send_buffer sseq step t n xs level (wait_of from to) addr out)
    × (plain_send_sseq sseq step t n xs level addr (length out) ≡ send_sseq sseq step t n xs level (wait_of from to) addr (length out))
unfolding plain_send_answer plain_send_buffer plain_send_sseq send_answer send_buffer send_sseq
send_same sseq step t n xs level from to addr out =
    let wait = wait_of from to in
    let order = send_order_lem sseq step t n xs level wait addr (length out) in
    let sent = sent_is sseq step t n xs level wait addr in
    (ap₂ sent_answer order sent, ap₂ (λ (r : ℕ) (l : List ℕ). sent_buffer r l out) order sent, ap (λ (r : ℕ). if_taken r (sseq_set step sseq) sseq) order)

-- And so of the calls themselves: two outcomes of the same inputs, one that the plain call's contract allows and one that the quick call's does, are equal.
pub forward_calls : (κs : Lfts 2) (a : Dens κs forward-kinds.ps) (r r' : _) (s s' : AtExit (ended_of 2 forward-kinds.ps forward-kinds.r) κs)
    → plain-forward.Post κs a r s → quick-forward.Post κs a r' s'
    → (r ≡ r') × (s.1.1.0.now ≡ s'.1.1.0.now)
forward_calls κs a r r' s s' p q =
    let hop = a.1.0 in
    let e = forward_same hop.level hop.from hop.to hop.address a.0.now a.1.1.0.now in
    (sent_one r r' (p.0 ∙ e.0 ∙ sym q.0), p.1 ∙ e.1 ∙ sym q.1)

pub read_calls : (κs : Lfts 1) (a : Dens κs read-kinds.ps) (r r' s s' : _) → plain-read.Post κs a r s → quick-read.Post κs a r' s' → r ≡ r'
read_calls κs a r r' s s' p q = heard_one r r' (p ∙ read_same a.0.now ∙ sym q)

pub send_calls : (κs : Lfts 3) (a : Dens κs send-kinds.ps) (r r' : _) (s s' : AtExit (ended_of 3 send-kinds.ps send-kinds.r) κs)
    → plain_send.Post κs a r s → quick-send.Post κs a r' s'
    → (r ≡ r') × (s.1.1.1.1.0.now ≡ s'.1.1.1.1.0.now) × (s.0.now ≡ s'.0.now)
send_calls κs a r r' s s' p q =
    let packet = a.1.0 in
    let hop = a.1.1.1.0 in
    let e = send_same a.0.now packet.step packet.coding.0 packet.noise a.1.1.0.now hop.level hop.from hop.to hop.address a.1.1.1.1.0.now in
    (sent_one r r' (p.0 ∙ e.0 ∙ sym q.0), p.1.0 ∙ e.1 ∙ sym q.1.0, p.1.1 ∙ e.2 ∙ sym q.1.1)
