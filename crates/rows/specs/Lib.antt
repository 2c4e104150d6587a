pub mod Rows
pub mod Spoken
pub mod Besides
pub mod Inside
