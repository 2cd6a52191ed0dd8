pub mod BlockLaws
pub mod CheckLaws
pub mod DivisionLaws
pub mod SameCalls
pub mod SameOrders
pub mod StepLaws
