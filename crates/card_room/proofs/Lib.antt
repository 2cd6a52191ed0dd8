pub mod StoredLaws
pub mod CallLaws
pub mod OneOutcome
