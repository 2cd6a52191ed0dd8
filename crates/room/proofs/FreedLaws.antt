-- A question: 14 by what a record shows without a store, and what is answered.
use Prim.Native.Nat.{ℕ, ◌≤◌, ◌<◌}
use mathlib.Core.Path.{◌≡◌, refl, sym, ap, ◌∙◌}
use mathlib.Core.Bool.{Bool, true, false, ◌||◌}
use mathlib.Core.List.{List, []}
use native.Mathlib.Omega.{arith}
use lib.ListN.{length, get_or}
use borrow.Author.Tests.{le-ltb}
use Rattle.ring.specs.Ring.{sum}
use Rattle.ring.specs.Parts.{Slots}
use Rattle.ring.proofs.SumLaws.{used_most}
use Rattle.room.specs.Waiting.{lengths_of, misplaced, overfull, outside, refusal14}
use Rattle.room.specs.Rules.{freed_answer}
use Rattle.room.specs.Parts.{bare}
use Rattle.room.specs.declared.Queue.{Queue}
use Rattle.room.proofs.InsideLaws.{inside, let_by}

-- in the longest store the lengths of 32 frames, each an octet, are always within
longest : (q : Queue) → ((i : ℕ) → get_or q.lengths i 0 < 256) → length q.lengths ≤ 32 → outside 16384 q ≡ (misplaced 16384 q || overfull q)
unfolding outside
longest q octets few =
    let le : sum (lengths_of q) ≤ 16384 = omega (arith, used_most q.first q.count q.lengths octets) in
    ap (λ (b : Bool). misplaced 16384 q || overfull q || b) (le-ltb 16384 (sum (lengths_of q)) le) ∙ go (misplaced 16384 q || overfull q) where
      go : (b : Bool) → (b || false) ≡ b
      go true = refl
      go false = refl

-- so a record without slots is judged by the rest
pub longest_bare : (head first count : ℕ) (ts : List ℕ)
    → outside 16384 (bare head first count [] ts) ≡ (misplaced 16384 (bare head first count [] ts) || overfull (bare head first count [] ts))
longest_bare head first count ts = longest (bare head first count [] ts) (λ i. omega arith) (omega arith)

-- the lengths and the readings are of no account
pub freed_bare : (q : Queue) (level : ℕ) → Slots q.lengths → freed_answer (bare q.head q.first q.count [] q.totals) level ≡ freed_answer q level
unfolding freed_answer
freed_bare q level slots =
    let p : Queue = bare q.head q.first q.count [] q.totals in
    let same : outside 16384 p ≡ outside 16384 q = longest p (λ i. omega arith) (omega arith) ∙ sym (longest q slots.octets (omega (arith, slots.all))) in
    rw same refl

-- a record that 14 refuses with every store is refused, and no other
pub freed_14 : (q : Queue) → (n : ℕ) → refusal14 n q ≡ 0 → refusal14 16384 q ≡ 0
freed_14 q n z =
    let i = inside n q z in
    let_by 16384 q
    (record {
      store = omega arith;
      few = i.few;
      slot = i.slot;
      place = omega (arith, i.place, i.store);
      all = omega (arith, i.all, i.store);
      totals = i.totals;
    })
