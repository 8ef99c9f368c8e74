pub mod Setting
pub mod Lines
