pub mod Level
pub mod Time
pub mod Record
