pub mod Layout
pub mod Sealing
