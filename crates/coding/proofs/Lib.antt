pub mod CodingLaws
pub mod OneOutcome
