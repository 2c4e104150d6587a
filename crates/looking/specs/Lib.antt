pub mod Looking
pub mod Besides
