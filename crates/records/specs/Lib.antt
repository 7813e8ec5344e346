pub mod Record
pub mod Config
pub mod Examples
