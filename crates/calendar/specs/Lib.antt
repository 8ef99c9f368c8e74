pub mod Count
pub mod Date
pub mod Time
pub mod Sunday
pub mod Steps
