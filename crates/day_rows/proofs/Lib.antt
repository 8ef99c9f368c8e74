pub mod TalliesLaws
pub mod FiguresLaws
pub mod RowsLaws
pub mod FreshLaws
pub mod PutLaws
