pub mod NextSegment
pub mod Besides
pub mod Inside
