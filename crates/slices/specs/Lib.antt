pub mod Parallel
pub mod Besides
