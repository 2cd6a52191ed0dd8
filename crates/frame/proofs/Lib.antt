pub mod FrameLaws
pub mod IgnoredLaws
pub mod CommonLaws
pub mod OneOutcome
