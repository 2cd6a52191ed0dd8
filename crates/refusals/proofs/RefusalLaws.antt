-- What is known where an order refuses nothing, and where a number of it stands.
use Prim.Native.Nat.{ℕ, zero, suc, ◌≤◌}
use mathlib.Core.Path.{◌≡◌, refl, sym, ap, ◌∙◌}
use Rattle.std.specs.Prelude.{◌-◌, [], ◌∷◌, Result, Ok, Err, get_or}
use mathlib.Core.Bool.{Bool, true, false}
use native.Mathlib.Omega.{arith}
use borrow.Author.Tests.{ltb-false, le-ltb}
use Rattle.octets.proofs.BoolLaws.{or_false}
use Rattle.refusals.specs.Refusals.{◌or_else◌, refuse, if_taken, address_bad, number, refusal_of}
use Rattle.refusals.specs.declared.Refusal.{Refusal}
use Rattle.refusals.specs.declared.Refusal.TheVariants.{FrameSize, Address, Control, CheckSequence, Protocol, CodingType, Dropping, FrameLength, Stamp, Level, Samples, Bits, OutOfTurn, Record, OutgoingAddress, Room, Late, Clock, Kind, TooFarAhead, NotOffered, PartOctet, Aborted, CommandOrPoll, QueueFull, QueueEmpty, Tray}

-- a refusal is no zero
abbrev pub over_zero : Refusal → ℕ
over_zero FrameSize = 0
over_zero Address = 1
over_zero Control = 2
over_zero CheckSequence = 3
over_zero Protocol = 4
over_zero CodingType = 5
over_zero Dropping = 6
over_zero FrameLength = 7
over_zero Stamp = 8
over_zero Level = 9
over_zero Samples = 10
over_zero Bits = 11
over_zero OutOfTurn = 12
over_zero Record = 13
over_zero OutgoingAddress = 14
over_zero Room = 15
over_zero Late = 16
over_zero Clock = 17
over_zero Kind = 18
over_zero TooFarAhead = 19
over_zero NotOffered = 20
over_zero PartOctet = 21
over_zero Aborted = 22
over_zero CommandOrPoll = 23
over_zero QueueFull = 24
over_zero QueueEmpty = 25
over_zero Tray = 26

pub number_positive : (r : Refusal) → number r ≡ suc (over_zero r)
number_positive FrameSize = refl
number_positive Address = refl
number_positive Control = refl
number_positive CheckSequence = refl
number_positive Protocol = refl
number_positive CodingType = refl
number_positive Dropping = refl
number_positive FrameLength = refl
number_positive Stamp = refl
number_positive Level = refl
number_positive Samples = refl
number_positive Bits = refl
number_positive OutOfTurn = refl
number_positive Record = refl
number_positive OutgoingAddress = refl
number_positive Room = refl
number_positive Late = refl
number_positive Clock = refl
number_positive Kind = refl
number_positive TooFarAhead = refl
number_positive NotOffered = refl
number_positive PartOctet = refl
number_positive Aborted = refl
number_positive CommandOrPoll = refl
number_positive QueueFull = refl
number_positive QueueEmpty = refl
number_positive Tray = refl

-- what is refused ends the order
pub number_stands : (r : Refusal) (b : ℕ) → number r or_else b ≡ number r
number_stands r b = rw (number_positive r)

-- and the call
pub number_refuses : {A : Type 0} (r : Refusal) (a b : A) → if_taken (number r) a b ≡ b
number_refuses r a b = rw (number_positive r)

clash : (r : Refusal) → 0 ≡ number r → ⊥
clash r e = let p = number_positive r in omega (arith, e, p)

pub ruleset judged = (number_stands, number_refuses)

-- no two refusals have one number
abbrev pub numbered : ℕ → Refusal
numbered n = get_or (FrameSize ∷ Address ∷ Control ∷ CheckSequence ∷ Protocol ∷ CodingType ∷ Dropping ∷ FrameLength ∷ Stamp ∷ Level ∷ Samples ∷ Bits ∷ OutOfTurn ∷ Record ∷ OutgoingAddress ∷ Room ∷ Late ∷ Clock ∷ Kind ∷ TooFarAhead ∷ NotOffered ∷ PartOctet ∷ Aborted ∷ CommandOrPoll ∷ QueueFull ∷ QueueEmpty ∷ Tray ∷ []) (n - 1) Tray

numbered_is : (r : Refusal) → numbered (number r) ≡ r
numbered_is FrameSize = refl
numbered_is Address = refl
numbered_is Control = refl
numbered_is CheckSequence = refl
numbered_is Protocol = refl
numbered_is CodingType = refl
numbered_is Dropping = refl
numbered_is FrameLength = refl
numbered_is Stamp = refl
numbered_is Level = refl
numbered_is Samples = refl
numbered_is Bits = refl
numbered_is OutOfTurn = refl
numbered_is Record = refl
numbered_is OutgoingAddress = refl
numbered_is Room = refl
numbered_is Late = refl
numbered_is Clock = refl
numbered_is Kind = refl
numbered_is TooFarAhead = refl
numbered_is NotOffered = refl
numbered_is PartOctet = refl
numbered_is Aborted = refl
numbered_is CommandOrPoll = refl
numbered_is QueueFull = refl
numbered_is QueueEmpty = refl
numbered_is Tray = refl

pub number_one : (r s : Refusal) → number r ≡ number s → r ≡ s
number_one r s e = sym (numbered_is r) ∙ ap numbered e ∙ numbered_is s

-- of what a call answers, only one result has the paper's number and values
pub result_one : {A P : Type 0} (paper : Result A Refusal → P) (n : P → ℕ) (back : P → A)
    → ((a : A) → n (paper (Ok a)) ≡ 0) → ((a : A) → back (paper (Ok a)) ≡ a) → ((r : Refusal) → n (paper (Err r)) ≡ number r)
    → (x y : Result A Refusal) → paper x ≡ paper y → x ≡ y
result_one paper n back zeros backs numbers (Ok a) (Ok b) e = ap Ok (sym (backs a) ∙ ap back e ∙ backs b)
result_one paper n back zeros backs numbers (Ok a) (Err s) e = absurd (clash s (sym (zeros a) ∙ ap n e ∙ numbers s))
result_one paper n back zeros backs numbers (Err r) (Ok b) e = absurd (clash r (sym (zeros b) ∙ ap n (sym e) ∙ numbers r))
result_one paper n back zeros backs numbers (Err r) (Err s) e = ap Err (number_one r s (sym (numbers r) ∙ ap n e ∙ numbers s))

pub judged_one : (x y : Result (Unit {0}) Refusal) → refusal_of x ≡ refusal_of y → x ≡ y
judged_one x y e = result_one refusal_of (λ n. n) (λ n. tt) (λ a. refl) (λ a. refl) (λ r. refl) x y e

-- nothing is refused: no number of the order applies
pub or_else_zero : (a b : ℕ) → a or_else b ≡ 0 → (a ≡ 0) × (b ≡ 0)
or_else_zero zero b h = (refl, h)
or_else_zero (suc a) b h = (h, let z : ◌≡◌ {A = ℕ} 0 1 = omega arith in omega arith)

pub refuse_zero : (t : Bool) (n : ℕ) → refuse t (suc n) ≡ 0 → t ≡ false
refuse_zero true n h = let z : ◌≡◌ {A = ℕ} 0 1 = omega arith in cc
refuse_zero false n h = refl

-- the first refusal stands
pub or_else_take : (a b r : ℕ) → r ≡ a → (r ≡ 0 → ⊥) → r ≡ a or_else b
or_else_take zero b r e h = absurd (h e)
or_else_take (suc a) b r e h = e

-- or, where it is none, the second
pub or_else_pass : (a b r s : ℕ) → r ≡ a → r ≡ 0 → s ≡ b → s ≡ a or_else b
or_else_pass a b r s e z h = let k : a ≡ 0 = sym e ∙ z in rw k h

pub in_range : (a : ℕ) → address_bad a ≡ false → (128 ≤ a) × (a ≤ 8063)
in_range a h = let p = or_false _ _ h in (ltb-false _ _ p.0, ltb-false _ _ p.1)

pub range_in : (a : ℕ) → 128 ≤ a → a ≤ 8063 → address_bad a ≡ false
range_in a p q = simp (le-ltb a 128 p, le-ltb 8063 a q)

pub if_refused : {A : Type 0} (r : ℕ) (a b : A) → (r ≡ 0 → ⊥) → if_taken r a b ≡ b
if_refused zero a b h = absurd (h refl)
if_refused (suc r) a b h = refl

pub if_taken_lem : {A : Type 0} (r : ℕ) (a b : A) → r ≡ 0 → if_taken r a b ≡ a
if_taken_lem r a b e = rw e

-- the answer of a call whose refusal is r: refused, and done
pub refused_is : {A : Type 0} (q r : ℕ) (a b x : A) → r ≡ q → (r ≡ 0 → ⊥) → x ≡ b → x ≡ if_taken q a b
refused_is q r a b x e h k = k ∙ sym (if_refused q a b (λ z. h (e ∙ z)))

pub done_is : {A : Type 0} (q r : ℕ) (a b x : A) → r ≡ q → r ≡ 0 → x ≡ a → x ≡ if_taken q a b
done_is q r a b x e z k = k ∙ sym (if_taken_lem q a b (sym e ∙ z))

-- three parts of an order, of which the first two are judged together
pub or_else_assoc : (a b c : ℕ) → a or_else b or_else c ≡ (a or_else b) or_else c
or_else_assoc zero b c = refl
or_else_assoc (suc a) b c = refl

-- an order whose first number stands, or whose others agree once it is none
pub by_first : (a b c : ℕ) → (a ≡ 0 → b ≡ c) → a or_else b ≡ a or_else c
by_first zero b c h = h refl
by_first (suc a) b c h = refl

-- a call that is done, or refused
pub by_taken : {P : Type 0} (r : ℕ) → (r ≡ 0 → P) → ((r ≡ 0 → ⊥) → P) → P
by_taken zero done refused = done refl
by_taken (suc r) done refused = refused (λ h. omega arith)

pub if_same : {A : Type 0} (r : ℕ) (a b c : A) → (r ≡ 0 → a ≡ b) → if_taken r a c ≡ if_taken r b c
if_same zero a b c h = h refl
if_same (suc r) a b c h = refl
