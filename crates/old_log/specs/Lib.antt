pub mod OldRows
pub mod Layout
pub mod Same
pub mod ForC
pub mod Lines
