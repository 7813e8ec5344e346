pub mod Groups
pub mod Pass
