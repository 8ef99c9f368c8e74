pub mod Ask
pub mod Row
