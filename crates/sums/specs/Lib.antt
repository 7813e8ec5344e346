pub mod Sums
pub mod Chain
pub mod Table
