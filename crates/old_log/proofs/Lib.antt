pub mod OldRowLaws
pub mod SameLaws
pub mod ForCLaws
pub mod LineLaws
pub mod Claims
