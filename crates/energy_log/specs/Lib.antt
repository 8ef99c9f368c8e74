pub mod Pair
pub mod Image
pub mod Look
pub mod Walk
pub mod View
pub mod Fresh
