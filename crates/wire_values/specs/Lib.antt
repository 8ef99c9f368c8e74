pub mod Clock
pub mod Telemetry
pub mod Mask
pub mod Power
pub mod Displayed
pub mod Row
