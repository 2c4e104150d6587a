pub mod Dropping
pub mod Besides
