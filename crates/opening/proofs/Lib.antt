pub mod NumberLaws
pub mod Once
