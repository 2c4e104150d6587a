pub mod ShownLaws
pub mod NumberLaws
pub mod Once
