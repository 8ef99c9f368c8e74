pub mod Report
pub mod Text
pub mod Day
pub mod Strip
