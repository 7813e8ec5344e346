pub mod Readings
pub mod Each
pub mod Examples
