pub mod Held
pub mod Ask
pub mod Reply
pub mod Book
pub mod Take
pub mod Lapse
pub mod Run
