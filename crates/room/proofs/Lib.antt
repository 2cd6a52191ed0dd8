pub mod CutLaws
pub mod InsideLaws
pub mod GivesLaws
pub mod EnterLaws
pub mod TakeLaws
pub mod FreedLaws
pub mod CountLaws
pub mod ShrinkLaws
