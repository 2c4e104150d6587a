pub mod HearingLaws
pub mod NumberLaws
