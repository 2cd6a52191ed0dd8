-- Laws of the text of a line: what is put after what in a buffer, digit by digit and number by number.
use Prim.Native.Nat.{ℕ, zero, suc, ◌+◌, ◌-◌, ◌/◌, ◌%◌, ◌≤◌, ◌<◌}
use mathlib.Core.Path.{◌≡◌, refl, sym, ap, ◌∙◌}
use mathlib.Core.List.{List, [], ◌∷◌, ◌++◌}
use native.Mathlib.Nat.{add-zero, le_refl}
use native.Mathlib.Numerals.{add-one}
use native.Mathlib.Omega.{arith}
use lib.ListN.{length, drop, get_or, length-append, length-drop, drop_of_length-le, set}
use lib.Seq.{sets, drop-cons}
use borrow.Author.Tests.{lt-ltb, le-ltb}
use Rattle.walking.specs.Text.{digits, number, after_number, line, Put}

sets_append : (a b l : List ℕ) (i : ℕ) → sets l i (a ++ b) ≡ sets (sets l i a) (i + length a) b
sets_append [] b l i = rw add-zero
sets_append (x ∷ a) b l i =
    sets_append a b (set l i x) (suc i) ∙ ap (λ (k : ℕ). sets (sets (set l i x) (suc i) a) k b) (omega arith)

-- nothing, and text after text; a list of stores in a row is text too
pub put_none : (room at : ℕ) (l : List ℕ) → Put [] room at at l l
put_none room at l = record { ends = omega arith; within = omega arith; holds = refl }

pub put_text : (text : List ℕ) (at : ℕ) (l : List ℕ) → Put text (length text) at (at + length text) l (sets l at text)
put_text text at l = record { ends = refl; within = le_refl (at + length text); holds = refl }

pub put_append : {a b : List ℕ} {i j room at mid end : ℕ} {l m n : List ℕ}
    → Put a i at mid l m → Put b j mid end m n → i + j ≤ room → Put (a ++ b) room at end l n
put_append {a} {b} {l = l} p q h = record {
  ends = rw length-append (omega arith);
  within = omega arith;
  holds = q.holds ∙ cc (sets_append a b l _, p.holds, p.ends);
}

pub put_wider : {text : List ℕ} {i room at end : ℕ} {l m : List ℕ} → Put text i at end l m → i ≤ room → Put text room at end l m
put_wider p h = record { ends = p.ends; within = omega arith; holds = p.holds }

pub digits_few : (places n : ℕ) → n < 10 → 0 < places → digits places n ≡ (48 + n) ∷ []
unfolding digits
digits_few zero n h p = absurd (omega arith)
digits_few (suc places) n h p = simp (lt-ltb _ _ h)

pub digits_more : (places n : ℕ) → 10 ≤ n → 0 < places → digits places n ≡ digits (places - 1) (n / 10) ++ ((48 + n % 10) ∷ [])
unfolding digits
digits_more zero n h p = absurd (omega arith)
digits_more (suc places) n h p =
    let e : suc places - 1 ≡ places = omega arith in
    simp (le-ltb _ _ h, e)

pub line_none : (ns : List ℕ) (i : ℕ) → length ns ≤ i → line (drop i ns) ≡ []
unfolding line
line_none ns i h = rw drop_of_length-le

-- what is left of a line: the next number and what is left then
pub line_more : (ns : List ℕ) (i : ℕ) → i < length ns
    → line (drop i ns) ≡ number (get_or ns i 0) (after_number (length ns - 1 - i)) ++ line (drop (i + 1) ns)
unfolding line
line_more ns i h =
    let e : length (drop (suc i) ns) ≡ length ns - 1 - i = length-drop (suc i) ns ∙ omega arith in
    rw (add-one, drop-cons ns i 0, e)

-- a turn of a loop that puts the next part of a text: what is left to put then
pub left_to_put : {a : List ℕ} {room at end : ℕ} {l m : List ℕ} (b : List ℕ) → Put a room at end l m
    → (at + length (a ++ b) ≡ end + length b) × (sets l at (a ++ b) ≡ sets m end b)
left_to_put {a} {at = at} {l = l} b p =
    (rw length-append (omega arith), sets_append a b l at ∙ cc (p.holds, p.ends))

-- a turn of the loop that puts a line: its next number is put
module _ (ns l m : List ℕ) (i after end next : ℕ) (h : i < length ns) (w : after ≡ after_number (length ns - 1 - i)) (p : Put (number (get_or ns i 0) after) 21 end next l m) where
  next_number_lem : number (get_or ns i 0) after ++ line (drop (i + 1) ns) ≡ line (drop i ns)
  next_number_lem = ap (λ (a : ℕ). number (get_or ns i 0) a ++ line (drop (i + 1) ns)) w ∙ sym (line_more ns i h)

  pub ends_then : (whole : ℕ) → end + length (line (drop i ns)) ≡ whole → next + length (line (drop (i + 1) ns)) ≡ whole
  ends_then whole e = sym (left_to_put (line (drop (i + 1) ns)) p).0 ∙ ap (λ (t : List ℕ). end + length t) next_number_lem ∙ e

  pub holds_then : (x : List ℕ) → sets l end (line (drop i ns)) ≡ x → sets m next (line (drop (i + 1) ns)) ≡ x
  holds_then x e = sym (left_to_put (line (drop (i + 1) ns)) p).1 ∙ ap (sets l end) next_number_lem ∙ e
