pub mod Row
pub mod File
pub mod Write
pub mod Read
