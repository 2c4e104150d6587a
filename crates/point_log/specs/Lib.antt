pub mod Log
pub mod Inside
pub mod Besides
