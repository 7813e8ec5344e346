pub mod Placing
pub mod Page
pub mod Examples
