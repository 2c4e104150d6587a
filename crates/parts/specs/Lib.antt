pub mod Given
pub mod Counting
pub mod Besides
pub mod Inside
