pub mod ReplyLaws
pub mod KeepLaws
