pub mod AcrossLaws
pub mod EachLaws
pub mod LineLaws
pub mod OctetLaws
pub mod ReadBack
pub mod Readings
pub mod Resync
pub mod WireLaws
