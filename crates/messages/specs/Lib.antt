pub mod Forms
pub mod Matching
pub mod Reading
pub mod Theorem
pub mod Inside
