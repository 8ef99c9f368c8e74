pub mod Words
pub mod Log
