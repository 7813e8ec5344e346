pub mod Placed
pub mod Groups
