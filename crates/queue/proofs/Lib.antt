pub mod AnswerLaws
pub mod SequenceLaws
pub mod FreedLaws
pub mod OneOutcome
