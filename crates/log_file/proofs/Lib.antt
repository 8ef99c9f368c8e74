pub mod RowLaws
pub mod WalkLaws
pub mod FileLaws
