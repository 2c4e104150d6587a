pub mod Heads
pub mod ElementLaws
pub mod Steps
pub mod Examples
