pub mod Table
pub mod Character
pub mod Widths
pub mod StandIn
pub mod Measure
pub mod Grown
pub mod Counts
pub mod Examples
