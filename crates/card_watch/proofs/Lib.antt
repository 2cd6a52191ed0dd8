pub mod OneOutcome
pub mod WatchingLaws
