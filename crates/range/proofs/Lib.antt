pub mod RangeLaws
pub mod AreaLaws
pub mod StoreLaws
