pub mod SetLines
pub mod Lines
pub mod Served
