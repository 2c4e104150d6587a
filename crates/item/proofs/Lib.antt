pub mod Derivative
pub mod Exact
pub mod Local
pub mod Theorem
pub mod Parts
pub mod Continue
pub mod Heads
pub mod WhichByte
