pub mod ByProtocol
pub mod RowLaws
pub mod SpokenLaws
