pub mod Demand1
pub mod MeterRun
pub mod Demand2
pub mod Demand3
pub mod Beginnings
pub mod Reading
pub mod RegisterToCell
pub mod PollingOrder
