pub mod OneOutcome
pub mod PlainLaws
