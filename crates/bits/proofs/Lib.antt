pub mod BitLaws
pub mod MarkLaws
pub mod UntilLaws
pub mod WindowLaws
