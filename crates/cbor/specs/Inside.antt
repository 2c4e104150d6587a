pub mod Stops
pub mod Walk
