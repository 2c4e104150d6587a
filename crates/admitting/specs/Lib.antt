pub mod Admitting
pub mod Inside
