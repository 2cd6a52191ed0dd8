-- The nine numbers of a watch stand for it; and where an event upon nine numbers is refused by nothing, they were nine.
use Prim.Native.Nat.{ℕ, zero, suc}
use mathlib.Core.Path.{◌≡◌, refl}
use mathlib.Core.List.{List}
use lib.ListN.{length}
use Rattle.refusals.specs.Refusals.{if_taken}
use Rattle.refusals.proofs.RefusalLaws.{or_else_zero}
use Rattle.watch.specs.Watch.{Watched, only}
use Rattle.watch.specs.declared.Originating.{Originating}
use Rattle.watch.specs.declared.Originating.TheVariants.{Norm as NORMAL, Alarm as ALARM}
use Rattle.watch.specs.declared.Terminating.{Terminating}
use Rattle.watch.specs.declared.Terminating.TheVariants.{Norm as NORM, LAlarm as L-ALARM, RAlarm as R-ALARM}
use Rattle.watch.specs.declared.Watch.{Watch}
use Rattle.watch.specs.Numbers.{originating_number, terminating_number}
use Rattle.card_watch.specs.Watching.{originating_numbered, terminating_numbered, watch_numbers, watch_of, nine_refusal, watch_refusal, event_refusal21, tell_refusal, kept_tell}
use Rattle.card.proofs.CardLaws.{sized}

same_originating : (o : Originating) → originating_numbered (originating_number o) ≡ o
same_originating NORMAL = refl
same_originating ALARM = refl

same_terminating : (t : Terminating) → terminating_numbered (terminating_number t) ≡ t
same_terminating NORM = refl
same_terminating L-ALARM = refl
same_terminating R-ALARM = refl

-- the nine numbers of a watch stand for it
pub same_watch : (w : Watch) → watch_of (watch_numbers w) ≡ w
unfolding watch_numbers watch_of
same_watch w = rw (same_originating w.originating, same_terminating w.terminating)

none_refused : (q : ℕ) (a : Watched) (w : Watch) → (if_taken q a (only q w)).refusal ≡ 0 → q ≡ 0
none_refused zero a w h = refl
none_refused (suc q) a w h = h

-- what is done was done upon nine numbers
pub done_nine : (kept : List ℕ) (clock event bits flag : ℕ) → (kept_tell kept clock event bits flag).refusal ≡ 0 → length kept ≡ 9
unfolding kept_tell tell_refusal watch_refusal
done_nine kept clock event bits flag z =
    let judged = (or_else_zero (event_refusal21 event) (watch_refusal kept) (none_refused _ _ _ z)).1 in
    sized 9 (length kept) refl (or_else_zero (nine_refusal (length kept)) _ judged).0
