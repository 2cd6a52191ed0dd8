pub mod CountLaws
pub mod PlayLaws
