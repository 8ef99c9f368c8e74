pub mod Completed
pub mod Rounds
pub mod Order
pub mod Premises
pub mod PollingOrder
