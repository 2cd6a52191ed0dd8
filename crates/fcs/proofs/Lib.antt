pub mod ShiftLaws
pub mod RunLaws
pub mod ChangeLaws
pub mod FoldLaws
pub mod SealLaws
pub mod OneOutcome
