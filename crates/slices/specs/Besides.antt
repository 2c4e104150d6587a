pub mod Numbers
pub mod History
