pub mod OneOutcome
pub mod RecordLaws
