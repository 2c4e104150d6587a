-- What may be read besides: statements, and definitions that only statements cite.
pub mod Routes
pub mod Instances
pub mod Segments
