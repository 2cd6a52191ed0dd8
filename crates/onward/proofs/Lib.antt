pub mod IgnoredLaws
pub mod OnwardLaws
pub mod SentLaws
