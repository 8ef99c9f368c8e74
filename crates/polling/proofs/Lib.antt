pub mod NextLaws
pub mod OrderLaws
pub mod ReplyLaws
pub mod FateLaws
pub mod MomentLaws
pub mod ReachedLaws
