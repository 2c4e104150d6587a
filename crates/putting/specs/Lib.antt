pub mod Putting
pub mod Besides
pub mod Inside
