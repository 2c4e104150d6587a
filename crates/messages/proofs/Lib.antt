pub mod FormLaws
pub mod Theorem
pub mod FieldLaws
