pub mod CountLaws
pub mod Numbered
pub mod DateLaws
pub mod TimeLaws
pub mod SundayLaws
pub mod Examples
