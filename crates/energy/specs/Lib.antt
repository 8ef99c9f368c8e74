pub mod Energy
