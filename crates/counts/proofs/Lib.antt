pub mod CountedLaws
pub mod MissingLaws
