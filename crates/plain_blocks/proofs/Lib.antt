pub mod Figure7Laws
pub mod MadeLaws
