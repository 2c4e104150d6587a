pub mod DroppingLaws
pub mod NumberLaws
pub mod Once
