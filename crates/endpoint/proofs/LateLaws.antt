-- Request A2, over the calls: what is played in the absence of packets after one that was late (17) or due too far ahead (20).
use Prim.Native.Nat.{ℕ, ◌≤◌}
use mathlib.Core.Path.{◌≡◌, ap, ◌∙◌}
use mathlib.Core.List.{List}
use mathlib.Core.Logic.{◌⊎◌}
use native.Mathlib.Omega.{arith}
use lib.ListN.{length, take}
use Rattle.frame.specs.Fields.{more_bit}
use Rattle.playout.specs.declared.Endpoint.{Endpoint}
use Rattle.endpoint.specs.Arrival.{arrival_of}
use Rattle.endpoint.specs.Calls.{Call, record_after, received, last_of}
use Rattle.endpoint.specs.Fill.{fill_of}
use Rattle.endpoint.proofs.ArrivalLaws.{arrival_stored}
use Rattle.endpoint.proofs.CallsLaws.{last_received}
use Rattle.endpoint.proofs.FillLaws.{fill_last, fill_noise}

-- on any record, and so after any calls before
module _ (e : Endpoint) (f : List ℕ) (clock : ℕ) (unplayed : ((arrival_of e f clock).answer.refusal ≡ 17) ⊎ ((arrival_of e f clock).answer.refusal ≡ 20)) where
  more_stored : (arrival_of e f clock).after.mlast ≡ more_bit f
  more_stored = ap (λ (x : Endpoint). x.mlast) (arrival_stored e f clock unplayed)

  module _ (last noise : List ℕ) (p : 128 ≤ length last) (q : 128 ≤ length noise) where
    -- the packet ended its burst: the noise, and not the last samples
    pub late_stop : more_bit f ≡ 0 → fill_of last noise (arrival_of e f clock).after.mlast ≡ take 128 noise
    late_stop h = fill_noise last noise (arrival_of e f clock).after.mlast p q (λ one. omega (arith, more_stored))

    -- its burst goes on: the last samples
    pub late_goes_on : more_bit f ≡ 1 → fill_of last noise (arrival_of e f clock).after.mlast ≡ take 128 last
    late_goes_on h = fill_last last noise (arrival_of e f clock).after.mlast p q (more_stored ∙ h)

-- and after any calls, whatever was refused since: fill goes by the more bit of the last packet received
pub fills_by_last : (e : Endpoint) (cs : List Call) (last noise : List ℕ)
    → fill_of last noise (record_after e cs).mlast ≡ fill_of last noise (last_of more_bit e.mlast (received e cs))
fills_by_last e cs last noise = ap (fill_of last noise) (last_received e cs).0
