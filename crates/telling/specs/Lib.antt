pub mod Statuses
pub mod Besides
