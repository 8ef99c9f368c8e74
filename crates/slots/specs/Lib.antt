pub mod Day
pub mod Key
