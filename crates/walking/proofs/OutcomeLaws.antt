-- Laws of what a record carries on and tells: where a frame was written, and where it was refused.
use Prim.Native.Nat.{ℕ, zero, suc, ◌-◌, min}
use mathlib.Core.Path.{◌≡◌, refl, sym, ap, ap₂, ◌∙◌}
use mathlib.Core.Bool.{Bool, true, false, cond}
use mathlib.Core.List.{List, [], ◌∷◌}
use native.Mathlib.Nat.{le_refl}
use native.Mathlib.Omega.{arith}
use lib.Dec.{leb, ltb}
use lib.ListN.{length, take, drop, length-drop, drop_of_length-le}
use lib.Seq.{take_all, drop-length}
use borrow.Author.Tests.{leb-true, leb-false, ltb-true, ne_eqb}
use Rattle.std.specs.Prelude.{Ok, Err}
use Rattle.std.specs.Result.{result_unwrap_or}
use Rattle.refusals.specs.Refusals.{number}
use Rattle.refusals.specs.declared.Refusal.{Refusal}
use Rattle.refusals.specs.declared.Refusal.TheVariants.{OutOfTurn}
use Rattle.refusals.proofs.RefusalLaws.{number_positive}
use Rattle.frame.specs.Fields.{stamp, field_c}
use Rattle.onward.specs.Sent.{Sent, sent_paper, sent_answer, sent_buffer}
use Rattle.onward.proofs.SentLaws.{whole_output}
use Rattle.origin.specs.Burst.{step_numbered}
use Rattle.origin.specs.declared.Step.TheVariants.{Stop}
use Rattle.walking.specs.Walk.{told as line_told, made}
use Rattle.walking.specs.Held.{frame_of, carried_of}
use Rattle.walking.specs.declared.State.{State}

-- all from octet n + 1 on, where the start of a part may not pass the end
pub tail_within : (n : ℕ) (l : List ℕ) → take (length l - min n (length l)) (drop (min n (length l)) l) ≡ drop n l
tail_within n l = take_all (length l - min n (length l)) (drop (min n (length l)) l) (rw length-drop (le_refl (length l - min n (length l)))) ∙ go (leb n (length l)) refl where
  go : (v : Bool) → leb n (length l) ≡ v → drop (min n (length l)) l ≡ drop n l
  go true h = let m : min n (length l) ≡ n = omega (arith, leb-true n (length l) h) in rw m
  go false h =
      let m : min n (length l) ≡ length l = omega (arith, leb-false n (length l) h) in
      rw m (drop-length l ∙ sym (drop_of_length-le l {i = n} (omega (arith, leb-false n (length l) h))))

-- an octet that names no step is taken for STOP
pub step_found : (n : ℕ) → result_unwrap_or (cond (ltb 2 n) (Err OutOfTurn) (Ok (step_numbered n))) Stop ≡ step_numbered n
step_found n = go (ltb 2 n) refl where
  go : (v : Bool) → ltb 2 n ≡ v → result_unwrap_or (cond (ltb 2 n) (Err OutOfTurn) (Ok (step_numbered n))) Stop ≡ step_numbered n
  go true h = let l = ltb-true 2 n h in rw (h, ne_eqb n 0 (λ q. omega arith), ne_eqb n 1 (λ q. omega arith))
  go false h = rw h

module _ (s : State) (kind sseq refusal : ℕ) (written : List ℕ) where
  -- n octets of the buffer are the frame written, and its line is of it
  pub made_done : (n : ℕ) (buffer frame told : List ℕ) → sent_paper (Ok n) ≡ sent_answer refusal written → buffer ≡ sent_buffer refusal written s.frame.buffer
      → frame ≡ take n buffer → told ≡ s.number ∷ kind ∷ 0 ∷ length frame ∷ stamp frame ∷ field_c frame ∷ []
      → record { carried = record { number = s.number; sseq = sseq; endpoint = s.endpoint; frame = frame }; told = told } ≡ made (carried_of s) kind sseq refusal written
  unfolding made line_told sent_paper sent_answer
  made_done n buffer frame told e b f t = go refusal refl where
    go : (k : ℕ) → refusal ≡ k
        → record { carried = record { number = s.number; sseq = sseq; endpoint = s.endpoint; frame = frame }; told = told } ≡ made (carried_of s) kind sseq refusal written
    go zero z =
        let w : frame ≡ written = f ∙ ap₂ take (ap (λ (x : Sent). x.length) (rw z at e)) (b ∙ rw z) ∙ whole_output zero written s.frame.buffer refl in
        rw (t, w, z)
    go (suc k) z = absurd (omega (arith, ap (λ (x : Sent). x.refusal) (rw z at e)))

  -- the frame made before stays, and its line has the number
  pub made_refused : (r : Refusal) (frame told : List ℕ) → sent_paper (Err r) ≡ sent_answer refusal written
      → frame ≡ frame_of s.frame → ((f last : List ℕ) → told ≡ line_told s.number kind (number r) f last)
      → record { carried = record { number = s.number; sseq = sseq; endpoint = s.endpoint; frame = frame }; told = told } ≡ made (carried_of s) kind sseq refusal written
  unfolding made line_told sent_paper sent_answer
  made_refused r frame told e f t = go refusal refl where
    go : (k : ℕ) → refusal ≡ k
        → record { carried = record { number = s.number; sseq = sseq; endpoint = s.endpoint; frame = frame }; told = told } ≡ made (carried_of s) kind sseq refusal written
    go zero z = absurd (let p = number_positive r in omega (arith, p, ap (λ (x : Sent). x.refusal) (rw z at e)))
    go (suc k) z = let m : number r ≡ suc k = ap (λ (x : Sent). x.refusal) (rw z at e) in rw (f, t written (field_c written ∷ []), m, z)
