pub mod BurstLaws
pub mod MadeLaws
pub mod SendLaws
pub mod SignalLaws
pub mod ClearLaws
pub mod OneOutcome
