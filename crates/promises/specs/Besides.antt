-- What may be read besides: statements, and definitions that only statements cite.
pub mod Alike
pub mod Arrival
pub mod Examples
pub mod Further
pub mod Met
pub mod WhichByte
