pub mod Lister
pub mod Besides
