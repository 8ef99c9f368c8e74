pub mod AskLaws
pub mod TakeLaws
pub mod LapseLaws
pub mod BookLaws
pub mod StepLaws
pub mod SeasonLaws
pub mod FigureLaws
pub mod HeardLaws
