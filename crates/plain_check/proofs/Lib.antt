pub mod BitLaws
pub mod FillLaws
pub mod WalkLaws
