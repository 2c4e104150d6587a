pub mod Conds
pub mod Table
pub mod ListLaws
pub mod NumberLaws
