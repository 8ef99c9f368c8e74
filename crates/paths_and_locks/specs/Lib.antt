pub mod Lock
pub mod Path
