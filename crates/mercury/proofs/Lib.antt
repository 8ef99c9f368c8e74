pub mod CommandLaws
pub mod LayoutLaws
pub mod DataLaws
pub mod ReplyLaws
