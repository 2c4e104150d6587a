pub mod Points
pub mod Besides
