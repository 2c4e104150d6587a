pub mod JudgingLaws
pub mod HearingLaws
pub mod SayingLaws
pub mod Moving
