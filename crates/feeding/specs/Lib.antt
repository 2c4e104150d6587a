pub mod Feeding
pub mod Besides
pub mod Inside
