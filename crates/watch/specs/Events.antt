-- Document 02, A1, over any sequence of events upon one watch: the watch and the answers that they leave, and what is promised of them.
use Rattle.std.specs.Prelude.{ℕ, ◌+◌, ◌≤◌, ◌<◌, ◌≡◌, Bool, true, false, not, List, [], ◌∷◌}
use Rattle.refusals.specs.Refusals.{if_taken}
use Rattle.watch.specs.declared.Watch.{Watch}
use Rattle.watch.specs.declared.Event.{Event}
use Rattle.watch.specs.declared.Sends.TheVariants.{Nothing}
use Rattle.watch.specs.declared.Conditioning.{Conditioning}
use Rattle.watch.specs.declared.Conditioning.TheVariants.{Unchanged, Begins, Ends}
use Rattle.watch.specs.Watch.{Watched, is_sent, sent_after, taken_after, event_answer}

-- what a host tells of, and when
pub record Told : Type 0 where
  pub clock : ℕ
  pub event : Event

abbrev pub answer_to : Watch → Told → Watched
answer_to w x = event_answer w x.clock x.event

-- the watch after a list of events, and the answer to each
unfoldable pub watch_after : Watch → List Told → Watch
watch_after w [] = w
watch_after w (x ∷ xs) = watch_after (answer_to w x).after xs

unfoldable pub answers : Watch → List Told → List Watched
answers w [] = []
answers w (x ∷ xs) = answer_to w x ∷ answers (answer_to w x).after xs

-- outcomes of calls, each one that the call's promise allows upon the watch that the one before left
unfoldable pub Runs : Watch → List Told → List Watched → Type 0
Runs w [] [] = Unit {0}
Runs w [] (r ∷ rs) = ⊥
Runs w (x ∷ xs) [] = ⊥
Runs w (x ∷ xs) (r ∷ rs) = (r ≡ answer_to w x) × Runs r.after xs rs

-- the clock of the last frame taken, or `from` if there was none; a frame whose event is refused is not taken
unfoldable pub last_frame : ℕ → Watch → List Told → ℕ
last_frame from w [] = from
last_frame from w (x ∷ xs) =
    last_frame (if_taken (answer_to w x).refusal (taken_after x.event x.clock from) from) (answer_to w x).after xs

-- the clock of the last frame sent, of either kind, or `from` if there was none
abbrev pub sent_at : ℕ → Watch → Told → ℕ
sent_at from w x = sent_after (answer_to w x).sends x.clock from

unfoldable pub last_sent : ℕ → Watch → List Told → ℕ
last_sent from w [] = from
last_sent from w (x ∷ xs) = last_sent (sent_at from w x) (answer_to w x).after xs

-- conditioning begins only where it is off and ends only where it is on
abbrev pub fits : Bool → Conditioning → Bool
fits on Unchanged = true
fits on Begins = not on
fits on Ends = on

abbrev pub on_after : Bool → Conditioning → Bool
on_after on Unchanged = on
on_after on Begins = true
on_after on Ends = false

-- begun and ended in turn, and in the end on or off
unfoldable pub InTurn : Bool → List Watched → Bool → Type 0
InTurn on [] end = on ≡ end
InTurn on (a ∷ rest) end = (fits on a.conditioning ≡ true) × InTurn (on_after on a.conditioning) rest end

-- nothing is ever sent or conditioned
unfoldable pub Silent : List Watched → Type 0
Silent [] = Unit {0}
Silent (a ∷ rest) = (a.sends ≡ Nothing) × (a.conditioning ≡ Unchanged) × Silent rest

-- events of which none is refused, at most a millisecond apart
unfoldable pub EveryMs : Watch → List Told → Type 0
EveryMs w [] = Unit {0}
EveryMs w (x ∷ xs) = ((answer_to w x).refusal ≡ 0) × (x.clock ≤ w.lastclock + 1) × EveryMs (answer_to w x).after xs

-- from `from` on, each frame that is sent is sent at most ms after the one before it, and less than ms have passed since the last
unfoldable pub SentWithin : ℕ → ℕ → Watch → List Told → Type 0
SentWithin ms from w [] = w.lastclock < from + ms
SentWithin ms from w (x ∷ xs) =
    (is_sent (answer_to w x).sends ≡ true → x.clock ≤ from + ms)
    × SentWithin ms (sent_at from w x) (answer_to w x).after xs
