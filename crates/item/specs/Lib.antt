pub mod Grammar
pub mod Verdict
pub mod Besides
