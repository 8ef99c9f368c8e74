pub mod NightLaws
pub mod RunLaws
pub mod Examples
