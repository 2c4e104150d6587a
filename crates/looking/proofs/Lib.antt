pub mod LookingLaws
pub mod NumberLaws
pub mod PartLaws
pub mod SameLaws
pub mod Once
