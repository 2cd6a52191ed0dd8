pub mod EventLaws
pub mod OneOutcome
pub mod SequenceLaws
pub mod TableLaws
pub mod WatchLaws
