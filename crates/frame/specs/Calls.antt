-- What `frame::link` and `frame::taken` answer: the number and, where it is 0, what the frame is; else zeros.
use Rattle.std.specs.Prelude.{ℕ, Bool, false, List, length, Result, Ok, Err}
use Rattle.refusals.specs.Refusals.{if_taken, number}
use Rattle.refusals.specs.declared.Refusal.{Refusal}
use Rattle.frame.specs.Fields.{address, is_voice, field_c}
use Rattle.frame.specs.Orders.{link_refusal, taken_refusal}
use Rattle.frame.specs.declared.LinkFacts.{LinkFacts}
use Rattle.frame.specs.declared.TakenFacts.{TakenFacts}

pub record Link : Type 0 where
  pub refusal : ℕ
  pub voice : Bool
  pub address : ℕ

unfoldable pub link_answer : List ℕ → Link
link_answer f =
    if_taken (link_refusal f)
    (record { refusal = 0; voice = is_voice f; address = address f })
    (record { refusal = link_refusal f; voice = false; address = 0 })

-- the paper's number and values for each case
unfoldable pub link_paper : Result LinkFacts Refusal → Link
link_paper (Ok a) = record { refusal = 0; voice = a.voice; address = a.address }
link_paper (Err r) = record { refusal = number r; voice = false; address = 0 }

pub record Taken : Type 0 where
  pub refusal : ℕ
  pub voice : Bool
  pub length : ℕ
  pub c : ℕ

unfoldable pub taken_answer : List ℕ → Taken
taken_answer f =
    if_taken (taken_refusal f)
    (record { refusal = 0; voice = is_voice f; length = length f; c = field_c f })
    (record { refusal = taken_refusal f; voice = false; length = 0; c = 0 })

-- the paper's number and values for each case
unfoldable pub taken_paper : Result TakenFacts Refusal → Taken
taken_paper (Ok a) = record { refusal = 0; voice = a.voice; length = a.length; c = a.c }
taken_paper (Err r) = record { refusal = number r; voice = false; length = 0; c = 0 }
