pub mod Matching
pub mod Reading
pub mod Besides
pub mod Inside
