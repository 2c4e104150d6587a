pub mod RecordLaws
pub mod CallLaws
pub mod NumberLaws
pub mod HistoryLaws
pub mod Once
