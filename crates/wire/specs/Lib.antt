pub mod Segments
pub mod Instances
pub mod Besides
pub mod Inside
