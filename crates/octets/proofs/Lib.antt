pub mod BoolLaws
pub mod PartLaws
pub mod TabLaws
pub mod XorLaws
