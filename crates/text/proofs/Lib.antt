pub mod DecimalLaws
pub mod DateTextLaws
pub mod HexLaws
pub mod ReadingLaws
pub mod SearchLaws
