pub mod Examples
pub mod TextLaws
pub mod DayLaws
pub mod StripLaws
