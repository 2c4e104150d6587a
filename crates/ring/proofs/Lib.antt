pub mod Runs
pub mod Stores
pub mod Areas
pub mod Around
pub mod Streams
mod Copies
pub mod Views
