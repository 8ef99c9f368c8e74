pub mod Tallies
pub mod Figures
pub mod Rows
pub mod LogAndRows
pub mod Fresh
pub mod Put
