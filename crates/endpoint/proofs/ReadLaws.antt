-- What the voice reader's frame is known to hold, where it passes.
use Prim.Native.Nat.{ℕ, zero, suc, ◌+◌, ◌*◌, ◌≤◌}
use mathlib.Core.Path.{◌≡◌, refl, sym, ap, ◌∙◌}
use mathlib.Core.Bool.{Bool, true, false, ◌&&◌, cond}
use mathlib.Core.List.{List, ◌++◌}
use native.Mathlib.Nat.{le_refl}
use native.Mathlib.Omega.{arith}
use lib.ListN.{length, drop}
use Rattle.std.specs.Prelude.{Result, Ok, Err}
use Rattle.octets.proofs.TabLaws.{length_tab}
use Rattle.refusals.specs.Refusals.{number, refusal_of}
use Rattle.refusals.specs.declared.Refusal.{Refusal}
use Rattle.refusals.proofs.RefusalLaws.{number_positive}
use Rattle.blocks.specs.Blocks.{sample, samples}
use Rattle.coding.specs.Coding.{reserved}
use Rattle.coding.proofs.CodingLaws.{s_le_8}
use Rattle.frame.specs.Fields.{is_voice, coding}
use Rattle.frame.specs.Orders.{voice_refusal}
use Rattle.frame.proofs.FrameLaws.{voice_taken}
use Rattle.endpoint.specs.declared.Told.{Told}
use Rattle.endpoint.specs.Read.{Heard, bits_of, dropped_of, width_of, samples_of, heard_of, read_answer}
use Rattle.endpoint.specs.Outcome.{told_of, told_or, told_paper, samples_or}

chosen : (voice none : Bool) (n m k : ℕ) → voice ≡ true → (voice && none) ≡ false → n ≡ cond voice (cond none 0 m) k → n ≡ m
chosen true false n m k v r e = e
chosen true true n m k v r e = cc
chosen false none n m k v r e = cc

-- the blocks present, the eight octets before them and the two after
pub voice_size : (f : List ℕ) → voice_refusal f ≡ 0 → length f ≡ 16 * width_of f + 10
voice_size f h =
    let p = voice_taken f h in
    chosen (is_voice f) (reserved (coding f)) (length f) (16 * width_of f + 10) 10 p.1 p.0.coded p.0.laid.size

-- so the blocks present can be read
pub blocks_there : (f : List ℕ) → voice_refusal f ≡ 0
    → (8 + 16 * width_of f ≤ length f) × (width_of f ≤ width_of f) × (width_of f ≤ 8)
blocks_there f h = (omega (arith, voice_size f h), le_refl (width_of f), omega (arith, s_le_8 (coding f)))

-- what is heard where nothing is refused
abbrev heard_well : List ℕ → Heard
heard_well f = record { refusal = 0; s = bits_of f; dropped = dropped_of f; width = width_of f; samples = samples_of f }

pub heard_taken : (n : ℕ) (f : List ℕ) → n ≡ 0 → heard_of n f ≡ heard_well f
unfolding heard_of
heard_taken n f z = rw z

-- the number of what is heard
pub heard_number : (n : ℕ) (f : List ℕ) → n ≡ (heard_of n f).refusal
unfolding heard_of
heard_number zero f = refl
heard_number (suc n) f = refl

-- always 128 samples
pub heard_long : (n : ℕ) (f : List ℕ) → length (heard_of n f).samples ≡ 128
unfolding heard_of samples_of samples
heard_long zero f = length_tab (sample (drop 8 f) (width_of f) (width_of f)) 128
heard_long (suc n) f = refl

-- so what is behind 128 is behind what is heard
pub heard_behind : (n : ℕ) (f slot x : List ℕ) → x ≡ (heard_of n f).samples ++ drop 128 slot → x ≡ (heard_of n f).samples ++ drop (length (heard_of n f).samples) slot
heard_behind n f slot x e = e ∙ ap (λ (k : ℕ). (heard_of n f).samples ++ drop k slot) (sym (heard_long n f))

-- what is heard of a frame that a refusal refuses is that of the refusal's number
pub samples_given : {A : Type 0} (given : Result A Refusal) (f : List ℕ) → samples_or given f ≡ (heard_of (refusal_of given) f).samples
unfolding heard_of
samples_given (Ok a) f = refl
samples_given (Err r) f = rw (number_positive r) refl

pub told_given : (given : Result (Unit {0}) Refusal) (f : List ℕ) → told_paper (told_or given f) ≡ told_of (heard_of (refusal_of given) f)
unfolding heard_of told_paper
told_given (Ok u) f = refl
told_given (Err r) f = rw (number_positive r) refl

-- what the reader answers, for the laws that go by it
pub read_is : (f : List ℕ) → read_answer f ≡ heard_of (voice_refusal f) f
unfolding read_answer
read_is f = refl

pub read_long : (f : List ℕ) → length (read_answer f).samples ≡ 128
read_long f = ap (λ (h : Heard). length h.samples) (read_is f) ∙ heard_long (voice_refusal f) f

-- and of a frame that is judged by the reader's order, what it tells and hears is the reader's answer
module _ (given : Result (Unit {0}) Refusal) (f : List ℕ) (e : refusal_of given ≡ voice_refusal f) where
  pub told_read : told_paper (told_or given f) ≡ told_of (read_answer f)
  told_read = told_given given f ∙ ap (λ (n : ℕ). told_of (heard_of n f)) e ∙ ap told_of (sym (read_is f))

  pub samples_read : samples_or (told_or given f) f ≡ (read_answer f).samples
  samples_read = handed given ∙ samples_given given f ∙ ap (λ (n : ℕ). (heard_of n f).samples) e ∙ ap (λ (h : Heard). h.samples) (sym (read_is f)) where
    handed : (g : Result (Unit {0}) Refusal) → samples_or (told_or g f) f ≡ samples_or g f
    handed (Ok u) = refl
    handed (Err r) = refl

  pub refusal_read : refusal_of (told_or given f) ≡ voice_refusal f
  refusal_read = handed given ∙ e where
    handed : (g : Result (Unit {0}) Refusal) → refusal_of (told_or g f) ≡ refusal_of g
    handed (Ok u) = refl
    handed (Err r) = refl

pub read_taken : (f : List ℕ) → voice_refusal f ≡ 0 → read_answer f ≡ heard_well f
read_taken f z = read_is f ∙ heard_taken (voice_refusal f) f z
