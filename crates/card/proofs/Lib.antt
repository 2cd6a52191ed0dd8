pub mod CardLaws
pub mod OneOutcome
