pub mod Made
pub mod Building
pub mod Besides
pub mod Inside
