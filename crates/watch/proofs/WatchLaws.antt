-- The row of an event, put together from its columns.
use Prim.Native.Nat.{ℕ, ◌+◌}
use mathlib.Core.Path.{◌≡◌, sym}
use lib.Dec.{leb}
use mathlib.Core.Bool.{Bool, cond}
use Rattle.watch.specs.declared.Originating.{Originating}
use Rattle.watch.specs.declared.Terminating.{Terminating}
use Rattle.watch.specs.declared.Coming.{Coming}
use Rattle.watch.specs.declared.Sends.{Sends}
use Rattle.watch.specs.declared.Sends.TheVariants.{Nothing, Refresh}
use Rattle.watch.specs.declared.Conditioning.{Conditioning}
use Rattle.watch.specs.declared.Row.{Row}
use Rattle.watch.specs.declared.Watch.{Watch}
use Rattle.watch.specs.declared.Event.{Event}
use Rattle.watch.specs.Table.{table, sends_both, conditioned, change}
use Rattle.watch.specs.Watch.{keep_alive, brought, sent_after, judged, event_row}
use Rattle.watch.proofs.TableLaws.{row_left}

-- a refresh is due after this was sent
abbrev pub due_after : Watch → ℕ → Sends → Bool
due_after w clock sends = leb (sent_after sends clock w.lastsent + w.refresh) clock

module _ (w : Watch) (clock : ℕ) (e : Event) where
  -- the row that an event leaves, worked out column by column
  pub row_is : (ro b : Coming) (t₁ t₂ : Terminating) (o₂ : Originating) (s₁ s₂ : Sends) (k : Conditioning)
      → ro ≡ keep_alive w clock → b ≡ brought w e
      → t₁ ≡ (table w.originating w.terminating ro).terminating
      → t₂ ≡ (table w.originating t₁ b).terminating
      → o₂ ≡ (table w.originating t₁ b).originating
      → s₁ ≡ (table w.originating t₁ b).sends
      → s₂ ≡ sends_both s₁ (cond (due_after w clock s₁) Refresh Nothing)
      → k ≡ change (conditioned w.terminating) (conditioned t₂)
      → ◌≡◌ {A = Row} (record { originating = o₂; terminating = t₂; sends = s₂; conditioning = k }) (event_row w clock e)
  unfolding event_row judged
  row_is ro b t₁ t₂ o₂ s₁ s₂ k hr hb h₁ h₂ ho hs₁ hs₂ hk =
      rw (hk, hs₂, hs₁, ho, h₂, h₁, hb, hr)
      (sym (row_left w.originating w.terminating (leb (w.lasttaken + w.keepalive) clock) (brought w e) (due_after w clock)))
