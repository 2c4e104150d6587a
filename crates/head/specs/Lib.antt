pub mod Initial
pub mod Read
pub mod Write
pub mod Besides
pub mod Inside
