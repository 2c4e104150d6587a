pub mod Tell
pub mod Frames
pub mod AnyHead
