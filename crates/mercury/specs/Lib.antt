pub mod Layout
pub mod Command
pub mod Data
pub mod Form
pub mod Request
pub mod Reply
