pub mod Opened
pub mod Gauges
