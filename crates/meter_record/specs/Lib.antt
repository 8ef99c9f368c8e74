pub mod Power
pub mod Ratios
pub mod Ranges
pub mod Record
pub mod With
pub mod Display
pub mod Widths
