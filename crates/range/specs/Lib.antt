pub mod Ranges
pub mod Besides
pub mod Inside
