pub mod TextLaws
pub mod WalkLaws
pub mod OutcomeLaws
pub mod StreamLaws
pub mod OneOutcome
