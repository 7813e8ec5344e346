pub mod Scan
pub mod State
