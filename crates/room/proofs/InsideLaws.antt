-- What is known of a record that 14 lets by, both ways, and of what waits in it.
use Prim.Native.Nat.{ℕ, ◌≤◌, ◌<◌}
use mathlib.Core.Path.{◌≡◌, refl, sym, ◌∙◌}
use mathlib.Core.Bool.{Bool, true, false, ◌||◌}
use mathlib.Core.List.{List}
use native.Mathlib.Omega.{arith}
use lib.Dec.{ltb}
use lib.ListN.{length}
use borrow.Author.Tests.{ltb-false, le-ltb}
use Rattle.octets.proofs.BoolLaws.{or_false}
use Rattle.refusals.specs.Refusals.{◌or_else◌, refuse}
use Rattle.refusals.proofs.RefusalLaws.{refuse_zero}
use Rattle.ring.specs.Ring.{turned, sum}
use Rattle.ring.proofs.RingLaws.{turned_length}
use Rattle.ring.proofs.SlotLaws.{used_count}
use Rattle.totals.specs.Totals.{any_above}
use Rattle.room.specs.Plain.{together}
use Rattle.room.specs.Waiting.{lengths_of, clocks_of, waiting, misplaced, overfull, outside, refusal14}
use Rattle.room.specs.declared.Queue.{Queue}
use Rattle.room.proofs.CutLaws.{cut_together, cut_count}

pub record Inside (n : ℕ) (q : Queue) : Type 0 where
  pub store : n ≤ 16384
  pub few : q.count ≤ 32
  pub slot : q.first < 32
  pub place : q.head ≤ n
  pub all : sum (lengths_of q) ≤ n
  pub totals : any_above 1536 q.totals ≡ false

pub inside : (n : ℕ) (q : Queue) → refusal14 n q ≡ 0 → Inside n q
unfolding outside
inside n q h =
    let p = or_false _ _ (refuse_zero _ 13 h) in
    let o = or_false _ _ p.0 in
    let r = or_false _ _ o.0 in
    let t = or_false _ _ r.0 in
    let u = or_false _ _ t.0 in
    let l : q.first ≤ 31 = ltb-false _ _ t.1 in
    record {
      store = ltb-false _ _ u.0;
      few = ltb-false _ _ u.1;
      slot = omega arith;
      place = ltb-false _ _ r.1;
      all = ltb-false _ _ p.1;
      totals = o.1;
    }

pub let_by : (n : ℕ) (q : Queue) → Inside n q → refusal14 n q ≡ 0
unfolding outside
let_by n q i =
    let l : q.first ≤ 31 = omega (arith, i.slot) in
    simp (le-ltb _ _ i.store, le-ltb _ _ i.few, le-ltb _ _ l, le-ltb _ _ i.place, le-ltb _ _ i.all, i.totals)

-- how many wait, and their lengths together
module _ (s : List ℕ) (q : Queue) (ll : length q.lengths ≡ 32) (lc : length q.clocks ≡ 32) (i : Inside (length s) q) where
  pub as_many : length (lengths_of q) ≡ length (clocks_of q)
  as_many = used_count q.lengths q.first q.count ll i.slot i.few ∙ sym (used_count q.clocks q.first q.count lc i.slot i.few)

  pub waiting_count : length (waiting s q) ≡ q.count
  unfolding waiting
  waiting_count = cut_count (turned q.head s) (lengths_of q) (clocks_of q) as_many ∙ used_count q.lengths q.first q.count ll i.slot i.few

  pub waiting_together : together (waiting s q) ≡ sum (lengths_of q)
  unfolding waiting
  waiting_together = cut_together (turned q.head s) (lengths_of q) (clocks_of q) as_many (omega (arith, i.all, turned_length q.head s))

-- 14 is judged in two steps: all but the lengths, and then these
pub outside_14 : (n : ℕ) (q : Queue) → refuse (outside n q) 14 ≡ (refuse (misplaced n q || overfull q) 14 or_else refuse (ltb n (sum (lengths_of q))) 14)
unfolding outside
outside_14 n q = go (misplaced n q || overfull q) where
  go : (b : Bool) → refuse (b || ltb n (sum (lengths_of q))) 14 ≡ (refuse b 14 or_else refuse (ltb n (sum (lengths_of q))) 14)
  go true = refl
  go false = refl
