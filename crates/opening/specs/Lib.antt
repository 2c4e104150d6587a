pub mod Openings
pub mod Besides
