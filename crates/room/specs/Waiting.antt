-- Request A6: how a store and a record hold the plain list. The frames lie in the store one behind the other, from the record's first place on and round the
-- store's end; their lengths and clock readings stand in the record's slots, from its first slot on and round the last. Request A7: the totals beside them.
use Rattle.std.specs.Prelude.{ℕ, ◌≤◌, ◌≡◌, Bool, ◌||◌, List, [], ◌∷◌, ltb, length, take, drop}
use Rattle.refusals.specs.Refusals.{refuse}
use Rattle.ring.specs.Ring.{turned, used, sum}
use Rattle.totals.specs.Totals.{levels, total, any_above}
use Rattle.room.specs.Plain.{Kept, kept, gives_all}
use Rattle.room.specs.declared.Queue.{Queue}

-- the lengths and readings of those that wait
abbrev pub lengths_of : Queue → List ℕ
lengths_of q = used q.first q.count q.lengths

abbrev pub clocks_of : Queue → List ℕ
clocks_of q = used q.first q.count q.clocks

-- octets cut into frames of the given lengths, each with its reading
unfoldable pub cut : List ℕ → List ℕ → List ℕ → List Kept
cut octets [] clocks = []
cut octets (l ∷ ls) [] = []
cut octets (l ∷ ls) (c ∷ clocks) = kept (take l octets) c ∷ cut (drop l octets) ls clocks

-- what waits
unfoldable pub waiting : List ℕ → Queue → List Kept
waiting s q = cut (turned q.head s) (lengths_of q) (clocks_of q)

-- a store of n octets over 16,384, a record past 32 frames, or one whose first place is not within the store
abbrev pub misplaced : ℕ → Queue → Bool
misplaced n q = ltb 16384 n || ltb 32 q.count || ltb 31 q.first || ltb n q.head

-- or with a total above 1,536
abbrev pub overfull : Queue → Bool
overfull q = any_above 1536 q.totals

-- or whose frames are not within the store
unfoldable pub outside : ℕ → Queue → Bool
outside n q = misplaced n q || overfull q || ltb n (sum (lengths_of q))

abbrev pub refusal14 : ℕ → Queue → ℕ
refusal14 n q = refuse (outside n q) 14

-- a record as every one is, with 32 slots and three totals, that 14 lets by
pub record Lets (n : ℕ) (q : Queue) : Type 0 where
  pub lengths_32 : length q.lengths ≡ 32
  pub clocks_32 : length q.clocks ≡ 32
  pub totals_3 : length q.totals ≡ 3
  pub inside : refusal14 n q ≡ 0

-- each total is the full sum over what waits
abbrev pub Counted : List ℕ → Queue → Type 0
Counted s q = q.totals ≡ levels (λ level. gives_all level (waiting s q))

-- or at most that, as in a record whose totals the host has lowered
abbrev pub Covered : List ℕ → Queue → Type 0
Covered s q = (level : ℕ) → total q.totals level ≤ gives_all level (waiting s q)
