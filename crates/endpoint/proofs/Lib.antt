pub mod ArrivalLaws
pub mod CallsLaws
pub mod FillLaws
pub mod IgnoredLaws
pub mod LateLaws
pub mod OneOutcome
pub mod ReadLaws
pub mod WidthLaws
