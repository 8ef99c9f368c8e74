pub mod Subject
pub mod Request
