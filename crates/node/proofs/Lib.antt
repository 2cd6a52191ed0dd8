pub mod ForwardLaws
pub mod IgnoredLaws
pub mod OneOutcome
