pub mod RingLaws
pub mod CopyLaws
pub mod SumLaws
pub mod SlotLaws
