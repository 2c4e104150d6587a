pub mod Standing
pub mod ReadsBack
pub mod Examples
