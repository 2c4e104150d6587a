pub mod Judging
pub mod Besides
