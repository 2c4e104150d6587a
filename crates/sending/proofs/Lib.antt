pub mod SendingLaws
pub mod NumberLaws
pub mod Once
