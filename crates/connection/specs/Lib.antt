pub mod Shapes
pub mod Closings
pub mod Areas
pub mod Parts
pub mod Inside
