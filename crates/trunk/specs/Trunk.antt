-- Document 02, A1: what a signalling frame tells the watch.
use Rattle.std.specs.Prelude.{Result, Ok, Err}
use Rattle.refusals.specs.Refusals.{if_taken}
use Rattle.endpoint.specs.declared.SignalFacts.{SignalFacts}
use Rattle.endpoint.specs.Signal.{SignalHeard}
use Rattle.watch.specs.declared.Event.{Event}
use Rattle.watch.specs.declared.Event.TheVariants.{Passing, Frame}

-- a frame taken, with its N/A; of a frame that is refused, that time has passed
abbrev pub event_of : SignalHeard → Event
event_of heard = if_taken heard.refusal (Frame heard.na) Passing

-- what the reader answered, by whatever it was refused: the number is then of no account, and 1 stands for any
abbrev pub heard_as : {E : Type 0} → Result SignalFacts E → SignalHeard
heard_as (Ok a) = record { refusal = 0; bits = a.bits; na = a.na; hold = a.hold }
heard_as (Err r) = record { refusal = 1; bits = 0; na = 0; hold = 0 }
