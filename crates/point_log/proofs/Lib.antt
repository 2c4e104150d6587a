pub mod SearchLaws
pub mod LookLaws
pub mod RecordLaws
pub mod CallLaws
pub mod NumberLaws
pub mod HistoryLaws
pub mod Examples
