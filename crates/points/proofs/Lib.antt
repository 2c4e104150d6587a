pub mod StandingLaws
pub mod BackLaws
pub mod Examples
pub mod Once
