pub mod Walking
pub mod Kept
