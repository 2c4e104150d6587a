pub mod Counting
pub mod Counted
pub mod PartLaws
