pub mod Protection
pub mod Season
