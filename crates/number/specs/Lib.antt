pub mod Number
pub mod Examples
