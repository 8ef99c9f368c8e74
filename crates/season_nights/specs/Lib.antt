pub mod Night
pub mod Run
