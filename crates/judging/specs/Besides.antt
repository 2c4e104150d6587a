-- What may be read besides: statements, and definitions that only statements cite.
pub mod Hearing
pub mod Saying
pub mod Judging
