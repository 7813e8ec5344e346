pub mod Rows
pub mod Measured
