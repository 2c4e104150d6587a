pub mod Ready
pub mod Besides
pub mod Inside
