pub mod Bits
pub mod Nearest
