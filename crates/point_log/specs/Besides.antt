pub mod Numbers
pub mod History
pub mod Looks
pub mod Examples
