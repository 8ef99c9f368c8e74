pub mod KeepLaws
pub mod JudgementLaws
