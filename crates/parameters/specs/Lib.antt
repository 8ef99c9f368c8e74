pub mod Code
pub mod Table
