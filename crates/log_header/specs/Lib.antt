pub mod Header
pub mod Interval
