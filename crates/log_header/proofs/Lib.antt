pub mod HeaderLaws
pub mod IntervalLaws
