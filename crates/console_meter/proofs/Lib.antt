pub mod SetLinesLaws
pub mod ServedLaws
