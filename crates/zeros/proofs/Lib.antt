pub mod CalmLaws
pub mod CarryLaws
pub mod CountLaws
pub mod PourLaws
pub mod WordLaws
