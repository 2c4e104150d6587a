pub mod Asked
pub mod Inside
