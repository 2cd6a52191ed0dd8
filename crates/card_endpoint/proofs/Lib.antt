pub mod HearingLaws
pub mod OneOutcome
