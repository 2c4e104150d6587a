-- What may be read besides: statements, and definitions that only statements cite.
pub mod Numbers
