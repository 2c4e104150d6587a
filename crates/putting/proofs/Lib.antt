pub mod PuttingLaws
pub mod NumberLaws
pub mod Once
