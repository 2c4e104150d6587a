pub mod Hearing
pub mod Besides
pub mod Inside
