pub mod OneOutcome
pub mod TrunkLaws
