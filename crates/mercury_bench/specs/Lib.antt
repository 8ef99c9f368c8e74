pub mod Meter
pub mod Reply
