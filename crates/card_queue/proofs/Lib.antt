pub mod QueueLaws
pub mod OneOutcome
